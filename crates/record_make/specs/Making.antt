-- Making a record: `from_tokens` and `set_sequence_id` (document 01, module 1).
-- Assumes nothing: these are definitions.
use Rattle.std.specs.Prelude.{cond, ℕ, ◌/◌, ◌%◌, List, [], ◌∷◌, eqb, ltb, length, set, replicate}
use Rattle.record.specs.Tree.{Range, Encoding, forest, encoding, sequences, absent}
use Rattle.record.specs.Read.{Reading, several, of_one}
use Rattle.record.specs.Outcome.{Outcome, refused, in_room}
use Rattle.record.specs.declared.Refusal.TheVariants.{MalformedRecord, SequenceIdAboveLast}
use Rattle.record_write.specs.Tokens.{token_width, token_row}
use Rattle.record_write.specs.Writing.{present_range}

-- the encoding of n tokens: a row each, "no ranges", no windows
abbrev pub of_tokens : ℕ → ℕ → List ℕ → Encoding
of_tokens type_id n tokens = encoding (several (token_row type_id) token_width n tokens) (replicate sequences absent) []

-- "From tokens: 1 for a length that is no multiple of 5, 2"
unfoldable pub from_tokens : List ℕ → ℕ → List ℕ → List ℕ → Outcome
from_tokens tokens type_id nodes rows =
    cond (eqb (length tokens % token_width) 0)
    (in_room nodes rows (forest (of_tokens type_id (length tokens / token_width) tokens ∷ [])))
    (refused MalformedRecord)

-- the range of all rows of an encoding
abbrev pub whole_range : Encoding → Range
whole_range E = present_range 0 (length E.rows)

-- "sets the range to all rows and keeps other ranges"
abbrev pub set_sequence : ℕ → Encoding → Encoding
set_sequence id E = record { rows = E.rows; ranges = set E.ranges id (whole_range E); below = E.below }

-- "Set sequence: 1, 13, 2"
unfoldable pub set_sequence_id : Reading → ℕ → List ℕ → List ℕ → Outcome
set_sequence_id r id nodes rows =
    of_one (refused MalformedRecord)
    (λ E. cond (ltb id sequences) (in_room nodes rows (forest (set_sequence id E ∷ []))) (refused SequenceIdAboveLast))
    r
