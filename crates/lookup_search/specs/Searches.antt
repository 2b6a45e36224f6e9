-- What is sought among the rows of a sequence: the rows of a word, the row that holds a character (document 01, module 1).
-- Assumes nothing: these are definitions.
use Rattle.std.specs.Prelude.{ℕ, ◌+◌, Bool, ◌&&◌, List, leb, ltb, eqb}
use Rattle.std.proofs.Math.Option.{Option, none as nothing, some}
use Rattle.record.specs.Tree.{Row, Encoding}
use Rattle.lookup_ranges.specs.First.{first_from, last_from, until, part}
use Rattle.lookup_ranges.specs.Ranges.{sequence_range}
use Rattle.record.specs.declared.Bounds.{Bounds}

-- "looks inside the range": the rows of a sequence
abbrev pub in_range : Encoding → ℕ → List Row
in_range E id = part (sequence_range E id).start (sequence_range E id).end E.rows

-- ---- A word's rows

-- "stops at the first word above the one sought (none never stops it)"
abbrev pub above_word : ℕ → Row → Bool
above_word word r = eqb r.word_mark 1 && ltb word r.word

-- the row has the word
abbrev pub is_word : ℕ → Row → Bool
is_word word r = eqb r.word_mark 1 && eqb r.word word

-- "first match and last match plus one": nothing without a match
abbrev pub from_to : Option ℕ → Option ℕ → Option Bounds
from_to nothing last = nothing
from_to (some first) nothing = nothing
from_to (some first) (some last) = some (record { start = first; end = last + 1 })

-- the rows of the word up to "the first word above the one sought", in rows of which the first has the number n
unfoldable pub word_rows : ℕ → ℕ → List Row → Option Bounds
word_rows word n rows = from_to (first_from (is_word word) n (until (above_word word) rows)) (last_from (is_word word) n (until (above_word word) rows))

-- ---- A character's row

-- "start ≤ place < end"
abbrev pub holds_place : ℕ → Row → Bool
holds_place place r = leb r.offset_start place && ltb place r.offset_end
