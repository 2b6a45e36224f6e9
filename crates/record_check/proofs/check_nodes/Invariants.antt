-- `check_nodes` finds exactly the batches with fine ranges: each turn keeps `Kept`, and each way out shows its answer.
-- Assumes nothing.
use Prim.Native.Nat.{◌+◌, ◌-◌}
use lib.ListN.{length}
use Rattle.record_check.proofs.Kept.{Kept}
use Rattle.record_check.proofs.check_nodes.Given as goal

abbrev pub invariant-loop-depth : goal.invariant-loop-depth
invariant-loop-depth l = Kept l.nodes l.rows l.pending l.depth l.i l.j l.tops

abbrev pub decreases-loop-depth : goal.decreases-loop-depth
decreases-loop-depth l = (length l.nodes - l.i) + l.depth
