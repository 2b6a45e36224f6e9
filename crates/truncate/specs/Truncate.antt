-- One encoding cut to a number of rows: what becomes of it, and when it refuses (document 01, "Truncate").
-- Assumes nothing: these are definitions.
use Rattle.std.specs.Prelude.{ℕ, cond, List, [], ◌∷◌, length}
use Rattle.record.specs.Tree.{Encoding, forest}
use Rattle.record.specs.Read.{Reading, of_one}
use Rattle.record.specs.Outcome.{Outcome, refused, in_room}
use Rattle.record.specs.declared.Refusal.TheVariants.{MalformedRecord, Stride}
use Rattle.truncate_size.specs.Size.{stride_refused}
use Rattle.truncate_write.specs.Truncated.{truncated}
use Rattle.cut_plan.specs.declared.Direction.{Direction}

-- ".. 3 .., 2": what becomes of the encoding E in an output of the two lists
unfoldable pub cut_outcome : List ℕ → List ℕ → ℕ → ℕ → Direction → Encoding → Outcome
cut_outcome nodes rows max stride d E =
    cond (stride_refused (length E.rows) max stride) (refused Stride)
    (in_room nodes rows (forest (truncated max stride d E ∷ [])))

-- "Truncate: 1, 3 .., 2": what becomes of the batch r
unfoldable pub truncate_outcome : List ℕ → List ℕ → ℕ → ℕ → Direction → Reading → Outcome
truncate_outcome nodes rows max stride d r = of_one (refused MalformedRecord) (cut_outcome nodes rows max stride d) r
