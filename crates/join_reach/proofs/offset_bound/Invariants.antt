-- `offset_bound` bounds the offsets: those of the rows passed in its loop, four in a turn, it bounds, and the few that are left
-- are bounded row by row. Assumes nothing.
use Prim.Native.Nat.{◌+◌, ◌*◌, ◌-◌, ◌<◌, ◌≤◌}
use lib.ListN.{length}
use mathlib.Core.List.{List}
use Rattle.record.specs.Tree.{Row}
use Rattle.record.specs.Flat.{row_width}
use Rattle.join_reach.specs.Promises.{RowsFrom}
use Rattle.join_reach.proofs.Bounds.{Bounded}
use Rattle.join_reach.proofs.offset_bound.Given as goal

abbrev pub invariant-loop-k : goal.invariant-loop-k
invariant-loop-k l = record {
  inside : 0 < l.count → l.j + l.count * row_width ≤ length l.rows;
  passed : (R : List Row) → RowsFrom l.rows l.j l.count R → Bounded l.rows R (l.count - l.k * 4) (l.j + l.k * (4 * row_width)) l.starts l.ends;
}
