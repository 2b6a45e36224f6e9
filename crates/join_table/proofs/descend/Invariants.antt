-- `descend` meets its contract.
-- Assumes nothing.
use mathlib.Core.Path.{◌≡◌}
use Prim.Native.Nat.{ℕ, suc, ◌+◌, ◌*◌, ◌≤◌}
use lib.ListN.{length}
use Rattle.join_table.specs.Table.{level_count, at, spread}
use Rattle.join_table.proofs.Passes.{Passed}
use Rattle.join_table.proofs.descend.Given as goal

abbrev pub invariant-loop-d : goal.invariant-loop-d
invariant-loop-d l = Passed level_count (λ d. spread d (at l.initial.t) 0) (λ k. 0) l.out l.d × (length l.t ≡ level_count * level_count) × ((k : ℕ) → k + suc level_count * l.d ≤ suc level_count * l.m → at l.t k ≡ spread l.d (at l.initial.t) k)
