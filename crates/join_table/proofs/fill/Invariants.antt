-- `fill` meets its contract.
-- Assumes nothing.
use Prim.Native.Nat.{◌*◌}
use Rattle.join_table.specs.Table.{level_count, at, paired}
use Rattle.join_table.proofs.Passes.{Passed}
use Rattle.join_table.proofs.fill.Given as goal

abbrev pub invariant-loop-k : goal.invariant-loop-k
invariant-loop-k l = Passed (level_count * level_count) (paired (at l.a) (at l.b) (at l.c) (at l.e)) (λ k. 0) l.t l.k
