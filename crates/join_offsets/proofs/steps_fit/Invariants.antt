-- `steps_fit` tells whether each step fits: the loop joins one encoding more, and the first that does not fit decides.
-- Assumes nothing.
use Prim.Native.Nat.{◌-◌}
use lib.ListN.{length}
use Rattle.record.specs.Tree.{Forest}
use Rattle.record.specs.WellFormed.{Stores}
use Rattle.join_offsets.proofs.Folding.{Folded}
use Rattle.join_offsets.proofs.steps_fit.Given as goal

abbrev pub invariant-loop-i : goal.invariant-loop-i
invariant-loop-i l = (f : Forest) → Stores l.nodes l.rows f → Folded l.nodes l.rows f l.base l.i l.j

abbrev pub decreases-loop-i : goal.decreases-loop-i
decreases-loop-i l = length l.nodes - l.i
