-- The shares of the longest first, by half of what there is.
-- Assumes nothing.
use mathlib.Core.Path.{◌≡◌, ap, ◌∙◌}
use mathlib.Core.Bool.{Bool, true, false, cond}
use mathlib.Core.Logic.{⊎_elim}
use Prim.Native.Nat.{ℕ, ◌+◌, ◌-◌, ◌/◌, ◌%◌, ◌≤◌, ◌<◌}
use native.Mathlib.Omega.{arith}
use lib.Dec.{ltb}
use borrow.Author.Tests.{lt-ltb, le-ltb}
use Rattle.cut_lengths.specs.Lengths.{left_beside, shorter_share, longer_share}
use Rattle.lists.proofs.Numbers.{either}

module _ (n most : ℕ) where
  -- few rows leave the others the rest
  module _ (h : n ≤ most / 2) where
    beside_few : left_beside n most ≡ most - n
    beside_few = rw (le-ltb most n (omega arith)) (omega arith)

    not_over : ltb most (n + left_beside n most) ≡ false
    not_over = le-ltb most (n + left_beside n most) (omega (arith, beside_few))

    pub shorter_few : shorter_share n most ≡ n
    shorter_few = ap (λ (t : Bool). cond t (most / 2) n) not_over

    pub longer_few : longer_share n most ≡ most - n
    longer_few = ap (λ (t : Bool). cond t (most / 2 + most % 2) (left_beside n most)) not_over ∙ beside_few

  -- many are cut to half
  module _ (h : most / 2 < n) where
    beside_many : n ≤ left_beside n most
    beside_many =
        ⊎_elim
        (λ (e : n ≤ most). rw (le-ltb most n e) (omega arith))
        (λ (e : most < n). rw (lt-ltb most n e) (omega arith))
        (either n most)

    over : ltb most (n + left_beside n most) ≡ true
    over = lt-ltb most (n + left_beside n most) (omega (arith, beside_many))

    pub shorter_many : shorter_share n most ≡ most / 2
    shorter_many = ap (λ (t : Bool). cond t (most / 2) n) over

    pub longer_many : longer_share n most ≡ most / 2 + most % 2
    longer_many = ap (λ (t : Bool). cond t (most / 2 + most % 2) (left_beside n most)) over
