-- A quotient rounded up.
-- Assumes nothing.
use mathlib.Core.Path.{◌≡◌, sym, ap, ◌∙◌}
use mathlib.Core.Logic.{⊎_elim}
use Prim.Native.Nat.{ℕ, suc, min, ◌+◌, ◌-◌, ◌*◌, ◌/◌, ◌%◌, ◌≤◌, ◌<◌}
use native.Mathlib.Nat.{add-div_right, div-eq_of_lt, div-mul-le_self, lt-div-mul-add, mul-le-mul_right, suc-mul}
use native.Mathlib.Numerals.{add-one}
use native.Mathlib.Omega.{arith}
use Rattle.std.proofs.lemmas.Grind.{div_ceil_times}
use Rattle.cut_plan.specs.Cut.{ceiling}
use Rattle.lists.proofs.Numbers.{either}

-- nothing takes no step
pub ceiling_none : (b : ℕ) → 0 < b → ceiling 0 b ≡ 0
ceiling_none b h = div-eq_of_lt (omega arith)

-- something takes a step, and then the steps of what is left
pub ceiling_step : (a b : ℕ) → 0 < b → 0 < a → ceiling a b ≡ suc (ceiling (a - b) b)
ceiling_step a b hb ha =
    let e : a + (b - 1) ≡ (a - 1) + b = omega arith in
    ap (◌/ b) e ∙ add-div_right (a - 1) hb ∙ add-one _ ∙ ap suc (⊎_elim small large (either a b))
  where
    small : a ≤ b → (a - 1) / b ≡ ceiling (a - b) b
    small h = div-eq_of_lt (omega arith) ∙ sym (div-eq_of_lt (omega arith))

    large : b < a → (a - 1) / b ≡ ceiling (a - b) b
    large h = let e : a - 1 ≡ a - b + (b - 1) = omega arith in ap (◌/ b) e

-- all steps together reach a, and pass it by less than a step
pub ceiling_reaches : (a b : ℕ) → 0 < b → a ≤ ceiling a b * b
ceiling_reaches a b h = omega (arith, lt-div-mul-add {a = a + (b - 1)} {b = b} h)

pub ceiling_close : (a b : ℕ) → 0 < b → ceiling a b * b < a + b
ceiling_close a b h = omega (arith, div-mul-le_self (a + (b - 1)) b)

-- fewer steps do not reach it
pub ceiling_least : (a b i : ℕ) → 0 < b → i < ceiling a b → i * b < a
ceiling_least a b i hb h = omega (arith, mul-le-mul_right b h, suc-mul i b, ceiling_close a b hb)

-- no other number does both, so that the library's quotient rounded up is this one
no_more : (a b : ℕ) {c d : ℕ} → a ≤ d * b → c * b < a + b → c ≤ d
no_more a b {c} {d} reaches close = ⊎_elim (λ (h : c ≤ d). h) (λ (h : d < c). absurd (omega (arith, mul-le-mul_right b h, suc-mul d b))) (either c d)

pub ceiling_is : (a b : ℕ) → 0 < b → a / b + min 1 (a % b) ≡ ceiling a b
ceiling_is a b h =
    let (reaches, close) = div_ceil_times a b h in
    omega (arith, no_more a b reaches (ceiling_close a b h), no_more a b (ceiling_reaches a b h) close)
