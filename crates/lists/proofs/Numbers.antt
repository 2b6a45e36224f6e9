-- Numbers, and yes and no as numbers.
-- Assumes nothing.
use mathlib.Core.Path.{◌≡◌, refl}
use mathlib.Core.Bool.{Bool, true, false}
use mathlib.Core.Logic.{◌⊎◌, inl, inr}
use Prim.Native.Nat.{ℕ, ◌≤◌, ◌<◌}
use native.Mathlib.Omega.{arith}
use lib.Dec.{leb}
use borrow.Author.Tests.{leb-true, leb-false}
use Rattle.lists.specs.Lists.{one}

-- one number is at most the other, or above it
pub either : (a b : ℕ) → (a ≤ b) ⊎ (b < a)
either a b = go (leb a b) refl
  where
    go : (t : Bool) → leb a b ≡ t → (a ≤ b) ⊎ (b < a)
    go true e = inl (leb-true a b e)
    go false e = inr (leb-false a b e)

pub one_few : (b : Bool) {x : ℕ} → x ≡ one b → x ≤ 1
unfolding one
one_few true e = omega arith
one_few false e = omega arith

pub one_none : (b : Bool) {x : ℕ} → x ≡ one b → x ≡ 0 → b ≡ false
unfolding one
one_none true e z = absurd (omega arith)
one_none false e z = refl
