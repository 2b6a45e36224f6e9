-- The rows and the characters of a word, over one encoding (document 01, module 1).
-- Assumes nothing: these are definitions.
use Rattle.std.specs.Prelude.{ℕ, ◌-◌}
use Rattle.std.proofs.Math.Option.{Option, some, bind}
use Rattle.std.proofs.Math.ListN.{get_elem?}
use Rattle.record.specs.Tree.{Encoding}
use Rattle.lookup_ranges.specs.Ranges.{sequence_range}
use Rattle.record.specs.declared.Bounds.{Bounds}
use Rattle.lookup_search.specs.Searches.{in_range, word_rows}

-- "word_to_tokens looks inside the range": its rows, numbered from the first row of the range on
unfoldable pub word_to_tokens : Encoding → ℕ → ℕ → Option Bounds
word_to_tokens E word id = word_rows word (sequence_range E id).start (in_range E id)

-- from the start of row first to the end of row last
unfoldable pub offsets_from : Encoding → ℕ → ℕ → Option Bounds
offsets_from E first last = bind (get_elem? E.rows first) (λ f. bind (get_elem? E.rows last) (λ l. some (record { start = f.offset_start; end = l.offset_end })))

-- "word_to_chars gives the first match's start and last match's end; the Rust also says none if that end row is 0": which
-- no found word has (`found_end` of proofs/WordLaws)
unfoldable pub word_to_chars : Encoding → ℕ → ℕ → Option Bounds
word_to_chars E word id = bind (word_to_tokens E word id) (λ b. offsets_from E b.start (b.end - 1))
