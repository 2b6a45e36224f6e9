-- `folded_profile` measures the fold: each turn folds one encoding more, and the first that is too large decides.
-- Assumes nothing.
use mathlib.Core.Bool.{Bool}
use Prim.Native.Nat.{◌-◌}
use lib.ListN.{length}
use Rattle.record.specs.Tree.{Forest}
use Rattle.fold_levels.specs.Promises.{HoldsNodes}
use Rattle.fold_levels.proofs.Folded.{Stepped}
use Rattle.fold_levels.proofs.folded_profile.Given as goal

abbrev pub invariant-loop-i : goal.invariant-loop-i
invariant-loop-i l = (g : Bool) (f : Forest) → HoldsNodes l.nodes f → Stepped g l.nodes f l.so_far l.i

abbrev pub decreases-loop-i : goal.decreases-loop-i
decreases-loop-i l = length l.nodes - l.i
