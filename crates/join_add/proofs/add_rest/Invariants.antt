-- `add_rest` makes the sums from i on: where the first i stand, the first k do after as many turns. Assumes nothing.
use Prim.Native.Nat.{ℕ}
use mathlib.Core.Path.{◌≡◌}
use mathlib.Core.List.{List}
use lib.ListN.{length}
use lib.Seq.{paste}
use Rattle.join_add.specs.Promises.{sums}
use Rattle.join_add.proofs.add_rest.Given as goal

abbrev pub invariant-loop-k : goal.invariant-loop-k
invariant-loop-k l =
    (length l.dst ≡ length l.initial.dst) × ((d : List ℕ) → length d ≡ length l.initial.dst → l.initial.dst ≡ paste d 0 (sums l.src l.more) l.i → l.dst ≡ paste d 0 (sums l.src l.more) l.k)
