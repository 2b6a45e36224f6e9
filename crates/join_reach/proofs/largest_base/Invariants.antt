-- `largest_base` finds the largest last offset end: of the nodes passed in its loop it is known, and the others are to come.
-- Assumes nothing.
use Prim.Native.Nat.{◌+◌, ◌*◌, ◌-◌, ◌<◌, ◌≤◌}
use lib.ListN.{length}
use Rattle.record.specs.Tree.{Forest}
use Rattle.record.specs.Flat.{node_width}
use Rattle.join_reach.specs.Promises.{NodesFrom}
use Rattle.join_reach.proofs.Walk.{Walked}
use Rattle.join_reach.proofs.largest_base.Given as goal

abbrev pub invariant-loop-k : goal.invariant-loop-k
invariant-loop-k l = record {
  inside : 0 < l.count → l.i + l.count * node_width ≤ length l.nodes;
  passed : (f : Forest) → NodesFrom l.nodes l.rows l.i l.j l.count f → Walked l.nodes l.rows f (l.count - l.k) (l.i + l.k * node_width) l.row l.largest;
}
