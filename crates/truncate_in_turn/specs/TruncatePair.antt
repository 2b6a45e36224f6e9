-- One or two encodings cut to a number of rows together (document 01, "Truncate pair").
-- Assumes nothing: these are definitions.
use Rattle.std.specs.Prelude.{ℕ, List, length, Result, Ok, Err, unwrap_or}
use Rattle.std.proofs.Math.Option.{Option, none as nothing, some}
use Rattle.record.specs.Tree.{Encoding}
use Rattle.record.specs.Read.{Reading, of_one_or_two}
use Rattle.record.specs.Outcome.{Outcome, refused}
use Rattle.record.specs.declared.Refusal.{Refusal}
use Rattle.record.specs.declared.Refusal.TheVariants.{MalformedRecord}
use Rattle.cut_lengths.specs.Lengths.{kept_lengths, rows_of_second}
use Rattle.cut_plan.specs.declared.Direction.{Direction}
use Rattle.cut_lengths.specs.declared.Strategy.{Strategy}
use Rattle.cut_lengths.specs.declared.Kept.{Kept}
use Rattle.truncate.specs.Truncate.{cut_outcome}
use Rattle.truncate_two.specs.CutBoth.{cut_both_outcome}

-- one encoding, of which n rows are kept, or two
abbrev pub cut_kept : List ℕ → List ℕ → ℕ → Direction → Encoding → Option Encoding → ℕ → ℕ → Outcome
cut_kept nodes rows stride d E nothing n m = cut_outcome nodes rows n stride d E
cut_kept nodes rows stride d E (some F) n m = cut_both_outcome nodes rows n m stride d E F

-- "4, 5": refused as the lengths kept are, or what o makes of them
abbrev pub unless_refused : (ℕ → ℕ → Outcome) → Result Kept Refusal → Outcome
unless_refused o (Err k) = refused k
unless_refused o (Ok k) = o k.first (unwrap_or k.second 0)

-- "Max length 0 truncates both to 0; a total within it changes nothing; then the three strategies as written": each
-- encoding is cut to the rows that it keeps, which for one that is not cut are those that it has.
-- "Truncate pair: 1, 4, 5, 3 (either encoding), 2."
unfoldable pub truncate_pair_outcome : List ℕ → List ℕ → ℕ → ℕ → Strategy → Direction → Reading → Outcome
truncate_pair_outcome nodes rows most stride s d r =
    of_one_or_two (refused MalformedRecord)
    (λ E second. unless_refused (cut_kept nodes rows stride d E second) (kept_lengths (length E.rows) (rows_of_second second) most s))
    r
