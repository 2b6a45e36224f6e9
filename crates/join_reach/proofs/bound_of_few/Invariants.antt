-- `bound_of_few` bounds the offsets: those of the rows passed in its loop it bounds, and the others are to come.
-- Assumes nothing.
use Prim.Native.Nat.{◌+◌, ◌*◌, ◌-◌, ◌<◌, ◌≤◌}
use lib.ListN.{length}
use mathlib.Core.List.{List}
use Rattle.record.specs.Tree.{Row}
use Rattle.record.specs.Flat.{row_width}
use Rattle.join_reach.specs.Promises.{RowsFrom}
use Rattle.join_reach.proofs.Bounds.{Bounded}
use Rattle.join_reach.proofs.bound_of_few.Given as goal

abbrev pub invariant-loop-k : goal.invariant-loop-k
invariant-loop-k l = record {
  inside : 0 < l.count → l.j + l.count * row_width ≤ length l.rows;
  passed : (R : List Row) → RowsFrom l.rows l.j l.count R → Bounded l.rows R (l.count - l.k) (l.j + l.k * row_width) l.starts l.ends;
}
