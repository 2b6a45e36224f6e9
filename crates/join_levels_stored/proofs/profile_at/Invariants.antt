-- `profile_at` counts each node at its level: each turn keeps what is left to read, and at the end nothing is.
-- Assumes nothing.
use Prim.Native.Nat.{◌+◌, ◌-◌}
use lib.ListN.{length}
use Rattle.join_levels_stored.proofs.Opened.{Kept}
use Rattle.join_levels_stored.proofs.profile_at.Given as goal

abbrev pub invariant-loop-depth : goal.invariant-loop-depth
invariant-loop-depth l = Kept l.nodes l.start l.pending l.counted l.rows l.levels l.depth l.i

abbrev pub decreases-loop-depth : goal.decreases-loop-depth
decreases-loop-depth l = length l.nodes - l.i + l.depth
