-- The lengths of a pair and the cut to them, one after the other, as a caller uses them (document 02, request 07).
-- Assumes nothing: these are definitions. That they are document 01's pair cut is `in_turn` of proofs/InTurn.
use Rattle.std.specs.Prelude.{ℕ, List, length, Option, Result, Ok, Err, option_map}
use Rattle.record.specs.Read.{Reading, of_one_or_two}
use Rattle.record.specs.Outcome.{Outcome, refused}
use Rattle.record.specs.declared.Refusal.{Refusal}
use Rattle.record.specs.declared.Refusal.TheVariants.{MalformedRecord}
use Rattle.cut_plan.specs.declared.Direction.{Direction}
use Rattle.cut_lengths.specs.Lengths.{rows_of_second}
use Rattle.cut_lengths.specs.declared.Strategy.{Strategy}
use Rattle.pair_lengths.specs.Lengths.{pair_lengths}
use Rattle.pair_lengths.specs.declared.PairLengths.{PairLengths}
use Rattle.truncate_pair.specs.CutPair.{cut_pair_outcome}

-- "4 and 5 come from the first": refused as the lengths are, or cut to them; a second that there is not has no length
abbrev pub cut_to : (ℕ → Option ℕ → Outcome) → Result PairLengths Refusal → Outcome
cut_to cut (Err k) = refused k
cut_to cut (Ok l) = cut l.first.kept (option_map (λ m. m.kept) l.second)

-- "its callers use both in turn", and "a caller that uses both looks at 1 before 4": the lengths of the batch r, then its cut
unfoldable pub both_in_turn : List ℕ → List ℕ → ℕ → ℕ → Strategy → Direction → Reading → Outcome
both_in_turn nodes rows most stride s d r =
    of_one_or_two (refused MalformedRecord)
    (λ E second. cut_to (λ n m. cut_pair_outcome nodes rows n m stride d r) (pair_lengths (length E.rows) (rows_of_second second) most s))
    r
