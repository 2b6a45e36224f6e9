-- A batch in bytes (document 02, request 03): "each its node count, row count, nodes and rows as little-endian 32-bit words".
-- Assumes nothing: these are definitions.
use Rattle.std.specs.Prelude.{ℕ, ◌+◌, ◌*◌, ◌≤◌, List, length, drop}
use Rattle.record.specs.Flat.{row_width, node_width}
use Rattle.record.specs.Read.{Reading, read}
use Rattle.words.specs.Words.{word_bytes, word_at, words_at}

-- the bytes of the two counts
abbrev pub head_bytes : ℕ
head_bytes = 8

-- the largest of a word
abbrev pub largest_word : ℕ
largest_word = 4294967295

-- how many numbers its nodes and its rows are, by the counts at the front
unfoldable pub node_words : List ℕ → ℕ
node_words bytes = word_at bytes * node_width

unfoldable pub row_words : List ℕ → ℕ
row_words bytes = word_at (drop word_bytes bytes) * row_width

-- how many bytes it takes "with its counts"
abbrev pub stored_size : List ℕ → ℕ
stored_size bytes = head_bytes + (node_words bytes + row_words bytes) * word_bytes

-- its nodes, and then its rows
abbrev pub stored_nodes : List ℕ → List ℕ
stored_nodes bytes = words_at (node_words bytes) (drop head_bytes bytes)

abbrev pub stored_rows : List ℕ → List ℕ
stored_rows bytes = words_at (row_words bytes) (drop (head_bytes + node_words bytes * word_bytes) bytes)

-- the batch at the front of some bytes
unfoldable pub stored_batch : List ℕ → Reading
stored_batch bytes = read (stored_nodes bytes) (stored_rows bytes)

-- ---- What adding it asks

-- the bytes begin with a whole batch, for whose numbers there is room
pub record Whole (bytes numbers : List ℕ) : Type 0 where
  pub counts : head_bytes ≤ length bytes
  pub whole : stored_size bytes ≤ length bytes
  pub room : node_words bytes + row_words bytes ≤ length numbers
