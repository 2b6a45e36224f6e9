-- `step` meets its contract.
-- Assumes nothing.
use Prim.Native.Nat.{suc, ◌+◌, ◌*◌}
use Rattle.join_table.specs.Table.{level_count, at}
use Rattle.join_table.proofs.Passes.{Passed}
use Rattle.join_table.proofs.step.Given as goal

abbrev pub invariant-loop-k : goal.invariant-loop-k
invariant-loop-k l = Passed (level_count * level_count) (λ k. at l.initial.t (k + 1) + at l.initial.t (k + level_count) + at l.initial.t (k + suc level_count)) (at l.initial.t) l.t l.k
