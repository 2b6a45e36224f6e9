-- Euclid's divisor of two numbers: where it ends and how it goes on, and that its divisors are those that the two have in common,
-- so that it divides both, and whatever divides both divides it. Assumes nothing.
use mathlib.Core.Path.{◌≡◌, refl, sym, ◌∙◌}
use mathlib.Core.Logic.{◌↔◌}
use Prim.Native.Nat.{ℕ, zero, suc, ◌/◌, ◌%◌, ◌<◌, ◌∣◌}
use native.Mathlib.Nat.{mul_comm, mod-lt, zero-lt-suc, dvd_refl, dvd-zero, dvd-mod_iff, div-mul_cancel, pos_of_dvd_of_pos}
use native.Mathlib.Omega.{arith}
use lib.Dec.{eqb-suc-zero}
use borrow.Author.Tests.{ne_eqb}
use Rattle.fractions.specs.Fractions.{gcd_up_to, gcd_of, Divides}

-- ---- Its steps

-- more steps than the second number are enough, however many they are
steps_enough : (steps others a b : ℕ) → b < steps → b < others → gcd_up_to steps a b ≡ gcd_up_to others a b
unfolding gcd_up_to
steps_enough zero others a b h k = omega arith
steps_enough (suc steps) zero a b h k = omega arith
steps_enough (suc steps) (suc others) a zero h k = refl
steps_enough (suc steps) (suc others) a (suc b) h k =
    let less : a % suc b < suc b = mod-lt a (zero-lt-suc b) in
    rw (eqb-suc-zero b) (steps_enough steps others (suc b) (a % suc b) (omega arith) (omega arith))

pub gcd_end : (a : ℕ) → gcd_of a 0 ≡ a
unfolding gcd_of gcd_up_to
gcd_end a = refl

pub gcd_step : (a b : ℕ) → 0 < b → gcd_of a b ≡ gcd_of b (a % b)
unfolding gcd_of gcd_up_to
gcd_step a b some = rw (ne_eqb b 0 (omega arith)) (steps_enough b (suc (a % b)) b (a % b) (mod-lt a some) (omega arith))

-- ---- Its divisors

-- `Divides` gives the quotient; the library's `∣`, whose laws are cited, says only that there is one
pub divides_as_library : (d n : ℕ) → Divides d n → d ∣ n
divides_as_library d n (k, e) = ∣ (k, e ∙ mul_comm k d) ∣₁

library_as_divides : (d n : ℕ) → d ∣ n → Divides d n
library_as_divides d n h = (n / d, sym (div-mul_cancel d h))

-- each step keeps the common divisors, and at the end the one number's are left
common_divisors : (most a b d : ℕ) → b < most → (d ∣ gcd_of a b) ↔ ((d ∣ a) × (d ∣ b))
common_divisors zero a b d h = absurd (omega arith)
common_divisors (suc most) a zero d h = rw (gcd_end a) (λ x. (x, dvd-zero d), λ both. both.0)
common_divisors (suc most) a (suc b) d h =
    let less : a % suc b < suc b = mod-lt a (zero-lt-suc b) in
    let step = common_divisors most (suc b) (a % suc b) d (omega arith) in
    rw (gcd_step a (suc b) (zero-lt-suc b)) (
      λ x. ((dvd-mod_iff d (step.0 x).0).0 (step.0 x).1, (step.0 x).0),
      λ both. step.1 (both.1, (dvd-mod_iff d both.1).1 both.0),
    )

module _ (a b : ℕ) where
  divisors : (d : ℕ) → (d ∣ gcd_of a b) ↔ ((d ∣ a) × (d ∣ b))
  divisors d = common_divisors (suc b) a b d (omega arith)

  pub gcd_divides_first : Divides (gcd_of a b) a
  gcd_divides_first = library_as_divides _ _ ((divisors (gcd_of a b)).0 (dvd_refl _)).0

  pub gcd_divides_second : Divides (gcd_of a b) b
  gcd_divides_second = library_as_divides _ _ ((divisors (gcd_of a b)).0 (dvd_refl _)).1

  pub gcd_greatest : (d : ℕ) → Divides d a → Divides d b → Divides d (gcd_of a b)
  gcd_greatest d first second = library_as_divides _ _ ((divisors d).1 (divides_as_library _ _ first, divides_as_library _ _ second))

  pub gcd_some : 0 < b → 0 < gcd_of a b
  gcd_some some = pos_of_dvd_of_pos (divides_as_library _ _ gcd_divides_second) some
