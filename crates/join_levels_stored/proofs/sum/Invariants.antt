-- `sum` adds up all levels; no sum wraps, since each is within the limits. Assumes nothing.
use mathlib.Core.Path.{◌≡◌}
use Prim.Native.Nat.{◌*◌, ◌≤◌}
use Rattle.record.specs.WellFormed.{most_rows}
use Rattle.join_table.specs.Table.{at, sum_below}
use Rattle.join_levels_stored.proofs.sum.Given as goal

abbrev pub invariant-loop-i : goal.invariant-loop-i
invariant-loop-i l = (l.all ≡ sum_below l.i (at l.a)) × (l.all ≤ l.i * most_rows)
