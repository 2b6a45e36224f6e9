-- How much two encodings hold together, and that the sizes of two cut encodings add up without passing a machine number.
-- Assumes nothing.
use mathlib.Core.Path.{◌≡◌}
use Prim.Native.Nat.{ℕ, ◌+◌, ◌-◌, ◌≤◌}
use native.Mathlib.Nat.{div-le_self}
use native.Mathlib.Omega.{arith}
use mathlib.Core.List.{[], ◌∷◌}
use Rattle.record.specs.Tree.{Encoding, forest}
use Rattle.record.specs.WellFormed.{most_rows}
use Rattle.cut_plan.specs.Cut.{decision_of}
use Rattle.cut_plan.specs.declared.Decision.{Decision}
use Rattle.cut_plan.specs.declared.Decision.TheVariants.{Whole, Emptied, StrideRefused, Windows}
use Rattle.cut_plan.proofs.Decides.{Says, decided}
use Rattle.record_extent.specs.Size.{size_of}
use Rattle.record_extent.specs.declared.Extent.{Extent}
use Rattle.truncate_size.specs.Size.{size_cut, size_after}
use Rattle.truncate_size.proofs.Counted.{counted}
use Rattle.truncate_write.proofs.Sizes.{same_extent}
use Rattle.truncate_two.specs.Promises.{together, Small}

pub together_size : (E F : Encoding) → size_of (forest (E ∷ F ∷ [])) ≡ together (size_of (forest (E ∷ []))) (size_of (forest (F ∷ [])))
together_size E F = same_extent (omega arith) (omega arith) (omega arith)

-- a cut encoding holds little enough
pub after_small : (n max stride : ℕ) (own : Extent) → n ≤ most_rows → own.nodes ≤ most_rows → own.rows ≤ most_rows → Small (size_after n max stride own)
after_small n max stride own h a b = go (decision_of n max stride) (decided n max stride)
  where
    go : (k : Decision) → Says n max stride k → Small (size_cut k n stride own)
    go Whole s = record { few_nodes = omega arith; few_rows = omega arith }
    go Emptied s = record { few_nodes = omega arith; few_rows = omega arith }
    go StrideRefused s = record { few_nodes = omega arith; few_rows = omega arith }
    go (Windows count) (u, e) =
        record {
          few_nodes = omega (arith, u.fewer, u.less, e, div-le_self (n - max + (max - stride - 1)) (max - stride));
          few_rows = omega (arith, (counted n max stride h (u, e)).few);
        }
