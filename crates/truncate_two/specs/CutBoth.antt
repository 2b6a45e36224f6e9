-- Two encodings, each cut to a number of rows (document 01, "Truncate pair").
-- Assumes nothing: these are definitions.
use Rattle.std.specs.Prelude.{ℕ, ◌||◌, cond, List, [], ◌∷◌, length}
use Rattle.record.specs.Tree.{Encoding, forest}
use Rattle.record.specs.Outcome.{Outcome, refused, in_room}
use Rattle.record.specs.declared.Refusal.TheVariants.{Stride}
use Rattle.cut_plan.specs.declared.Direction.{Direction}
use Rattle.truncate_size.specs.Size.{stride_refused}
use Rattle.truncate_write.specs.Truncated.{truncated}

-- "3 (either encoding), 2": two encodings, of which n and m rows are kept, in an output of the two lists
unfoldable pub cut_both_outcome : List ℕ → List ℕ → ℕ → ℕ → ℕ → Direction → Encoding → Encoding → Outcome
cut_both_outcome nodes rows n m stride d E F =
    cond (stride_refused (length E.rows) n stride || stride_refused (length F.rows) m stride) (refused Stride)
    (in_room nodes rows (forest (truncated n stride d E ∷ truncated m stride d F ∷ [])))
