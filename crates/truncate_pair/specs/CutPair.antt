-- One or two encodings, each cut to a length of its own (document 02, request 07).
-- Assumes nothing: these are definitions.
use Rattle.std.specs.Prelude.{ℕ, cond, List, [], ◌∷◌, length, Option, Some, None}
use Rattle.std.proofs.Math.Option as maybe
use Rattle.record.specs.Tree.{Encoding, forest}
use Rattle.record.specs.Read.{Reading, of_one_or_two}
use Rattle.record.specs.Outcome.{Outcome, refused, in_room}
use Rattle.record.specs.declared.Refusal.TheVariants.{MalformedRecord, Stride}
use Rattle.cut_plan.specs.declared.Direction.{Direction}
use Rattle.truncate_size.specs.Size.{stride_refused}
use Rattle.truncate_write.specs.Truncated.{truncated}
use Rattle.truncate.specs.Truncate.{cut_outcome}
use Rattle.truncate_two.specs.CutBoth.{cut_both_outcome}

-- "leaves a second without a length whole": E cut to n rows, F as it is, its windows too
unfoldable pub cut_first_outcome : List ℕ → List ℕ → ℕ → ℕ → Direction → Encoding → Encoding → Outcome
cut_first_outcome nodes rows n stride d E F =
    cond (stride_refused (length E.rows) n stride) (refused Stride)
    (in_room nodes rows (forest (truncated n stride d E ∷ F ∷ [])))

-- "the other cuts each encoding to its kept length and passes over a length for a missing second and leaves a second without a
-- length whole"
abbrev pub cut_each : List ℕ → List ℕ → ℕ → Option ℕ → ℕ → Direction → Encoding → maybe.Option Encoding → Outcome
cut_each nodes rows n m stride d E maybe.none = cut_outcome nodes rows n stride d E
cut_each nodes rows n None stride d E (maybe.some F) = cut_first_outcome nodes rows n stride d E F
cut_each nodes rows n (Some m) stride d E (maybe.some F) = cut_both_outcome nodes rows n m stride d E F

-- "1, 3 and 2 from the second": what becomes of the batch r in an output of the two lists
unfoldable pub cut_pair_outcome : List ℕ → List ℕ → ℕ → Option ℕ → ℕ → Direction → Reading → Outcome
cut_pair_outcome nodes rows n m stride d r = of_one_or_two (refused MalformedRecord) (cut_each nodes rows n m stride d) r
