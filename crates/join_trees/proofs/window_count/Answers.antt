-- `window_count` is the number that the definition gives, and it fits. Assumes nothing.
use Prim.Native.Nat.{ℕ, ◌+◌, ◌*◌, ◌≤◌}
use native.Mathlib.Omega.{arith}
use native.Mathlib.Nat.{mul-le-mul}
use Rattle.record.specs.WellFormed.{most_nodes}
use Rattle.join_trees.proofs.window_count.Goals as goal

few : (s p : ℕ) → s ≤ most_nodes → p ≤ most_nodes → s * (p + 1) ≤ most_nodes * (most_nodes + 1)
few s p a b = let l : p + 1 ≤ most_nodes + 1 = omega arith in mul-le-mul a l

pub overflow_mul-result : goal.overflow_mul-result
overflow_mul-result c = omega (arith, few c.args.s c.args.p c.requires.0 c.requires.1)

pub overflow_add-result-2 : goal.overflow_add-result-2
overflow_add-result-2 c = omega (arith, few c.args.s c.args.p c.requires.0 c.requires.1)
