-- `copy_shifted` writes the rows four at a time, and then those that are left. Assumes nothing.
use mathlib.Core.Path.{◌≡◌}
use mathlib.Core.List.{List}
use Prim.Native.Nat.{◌*◌, ◌-◌, ◌≤◌}
use lib.ListN.{length}
use Rattle.record.specs.Tree.{Row}
use Rattle.record.specs.Flat.{row_width}
use Rattle.record.specs.Standing.{RowsAt}
use Rattle.join_shift.proofs.Blocks.{Part}
use Rattle.join_shift.proofs.copy_shifted.Given as goal

abbrev pub invariant-loop-i : goal.invariant-loop-i
invariant-loop-i l =
    (length l.out_rows ≡ length l.initial.out_rows) × (l.i ≤ l.count * row_width) × ((R : List Row) → RowsAt l.rows l.j R → length R ≡ l.count → Part l.n R l.initial.out_rows l.at l.out_rows l.i)

abbrev pub decreases-loop-i : goal.decreases-loop-i
decreases-loop-i l = l.count * row_width - l.i
