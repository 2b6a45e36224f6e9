-- "little-endian 32-bit words" (document 02, requests 03 and 11).
-- Assumes nothing: these are definitions.
use Rattle.std.specs.Prelude.{ℕ, ◌+◌, ◌*◌, List, get_or}
use Rattle.record.specs.Read.{several}

-- "32-bit"
abbrev pub word_bytes : ℕ
word_bytes = 4

-- "little-endian": the word at the front of some bytes, the lowest byte first
unfoldable pub word_at : List ℕ → ℕ
word_at bytes = get_or bytes 0 0 + get_or bytes 1 0 * 256 + (get_or bytes 2 0 + get_or bytes 3 0 * 256) * 65536

-- so many words, one after another
abbrev pub words_at : ℕ → List ℕ → List ℕ
words_at count bytes = several word_at word_bytes count bytes
