-- `rows_before` adds up the row counts of the nodes before one. A u32 for each of fewer than 2 ^ 32 nodes fits.
-- Assumes nothing.
use mathlib.Core.Path.{◌≡◌}
use Prim.Native.Nat.{◌*◌, ◌≤◌}
use Rattle.lookup_texts.specs.Promises.{rows_before}
use Rattle.lookup_texts.proofs.rows_before.Given as goal

abbrev pub invariant-loop-i : goal.invariant-loop-i
invariant-loop-i l = (l.count ≡ rows_before l.nodes l.i) × (l.count ≤ l.i * 4294967295)
