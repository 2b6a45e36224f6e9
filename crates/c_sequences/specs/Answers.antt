-- How the answers of the lookups of sequences cross the C interface, each with what the lent numbers were. Where something may be
-- absent, the first number says whether it is there, and all are 0 where it is not.
-- Assumes nothing: these are definitions.
use Rattle.std.specs.Prelude.{ℕ, List, [], ◌∷◌, Option, Some, None, Result, Ok, Err}
use Rattle.record.specs.declared.Refusal.{Refusal}
use Rattle.lookup_ranges.specs.declared.Rows.{Rows}
use Rattle.lookup_holding.specs.declared.Sequence.{Sequence}
use Rattle.c_crossing.specs.Crossing.{Crossed, crossed_of}

-- ---- The numbers of each

abbrev pub sequence_range_numbers : Result Rows Refusal → Result (List ℕ) Refusal
sequence_range_numbers (Err k) = Err k
sequence_range_numbers (Ok r) = Ok (r.start.0 ∷ r.end.0 ∷ [])

abbrev pub count_numbers : Result ℕ Refusal → Result (List ℕ) Refusal
count_numbers (Err k) = Err k
count_numbers (Ok n) = Ok (n ∷ [])

abbrev pub sequence_numbers : Result (Option Sequence) Refusal → Result (List ℕ) Refusal
sequence_numbers (Err k) = Err k
sequence_numbers (Ok None) = Ok (0 ∷ 0 ∷ 0 ∷ [])
sequence_numbers (Ok (Some s)) = Ok (1 ∷ s.sequence ∷ s.place.0 ∷ [])

-- ---- In the place of what the lent numbers were

abbrev pub range_crossed : List ℕ → Result Rows Refusal → Crossed
range_crossed was a = crossed_of was (sequence_range_numbers a)

abbrev pub count_crossed : List ℕ → Result ℕ Refusal → Crossed
count_crossed was a = crossed_of was (count_numbers a)

abbrev pub sequence_crossed : List ℕ → Result (Option Sequence) Refusal → Crossed
sequence_crossed was a = crossed_of was (sequence_numbers a)

abbrev pub column_crossed : List ℕ → Result ℕ Refusal → Crossed
column_crossed was a = crossed_of was (count_numbers a)
