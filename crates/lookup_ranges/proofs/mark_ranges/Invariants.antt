-- `mark_ranges` marks one sequence after another: after k turns, those with an id below k. Assumes nothing.
use mathlib.Core.Path.{◌≡◌}
use Prim.Native.Nat.{ℕ, ◌*◌}
use mathlib.Core.List.{List, ◌++◌}
use lib.ListN.{length, replicate}
use Rattle.lookup_ranges.specs.Promises.{OfTop}
use Rattle.lookup_ranges.proofs.Marking.{column_to}
use Rattle.lookup_ranges.proofs.mark_ranges.Given as goal

abbrev pub invariant-loop-k : goal.invariant-loop-k
invariant-loop-k l = OfTop l.nodes (λ E. (rest : List ℕ) → l.initial.out ≡ replicate (2 * length E.rows) 0 ++ rest → l.out ≡ column_to E l.k ++ rest)
