-- `largest_offset` finds the largest offset: of the rows passed in its loop it is known, and the others are to come.
-- Assumes nothing.
use Prim.Native.Nat.{◌+◌, ◌*◌, ◌-◌, ◌<◌, ◌≤◌}
use lib.ListN.{length}
use mathlib.Core.List.{List}
use Rattle.record.specs.Tree.{Row}
use Rattle.record.specs.Flat.{row_width}
use Rattle.join_reach.specs.Promises.{RowsFrom}
use Rattle.join_reach.proofs.Rows.{Scanned}
use Rattle.join_reach.proofs.largest_offset.Given as goal

abbrev pub invariant-loop-k : goal.invariant-loop-k
invariant-loop-k l = record {
  inside : 0 < l.count → l.j + l.count * row_width ≤ length l.rows;
  passed : (R : List Row) → RowsFrom l.rows l.j l.count R → Scanned l.rows R (l.count - l.k) (l.j + l.k * row_width) l.largest;
}
