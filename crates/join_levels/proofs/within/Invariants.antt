-- `within` meets its contract.
-- Assumes nothing.
use mathlib.Core.Path.{◌≡◌}
use Prim.Native.Nat.{◌+◌}
use Rattle.join_table.specs.Table.{at, sum_below}
use Rattle.join_levels.proofs.within.Given as goal

abbrev pub invariant-loop-i : goal.invariant-loop-i
invariant-loop-i l = l.left + sum_below l.i (at l.a) ≡ l.limit
