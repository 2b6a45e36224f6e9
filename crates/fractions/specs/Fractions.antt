-- Fractions of whole numbers: the greatest common divisor, and lowest terms.
-- Assumes nothing: these are definitions.
use Rattle.std.specs.Prelude.{◌≡◌, cond, ℕ, zero, suc, ◌*◌, ◌/◌, ◌%◌, ◌<◌, eqb}
use Rattle.fractions.specs.declared.Fraction.{Fraction}

-- Euclid's divisor of two numbers, in so many steps
unfoldable pub gcd_up_to : ℕ → ℕ → ℕ → ℕ
gcd_up_to zero a b = a
gcd_up_to (suc steps) a b = cond (eqb b 0) a (gcd_up_to steps b (a % b))

-- the second number falls with each step, so one more than it is enough
unfoldable pub gcd_of : ℕ → ℕ → ℕ
gcd_of a b = gcd_up_to (suc b) a b

abbrev pub fraction : ℕ → ℕ → Fraction
fraction part whole = record { part = part; whole = whole }

-- "in lowest terms, 0 of 0 when there are no rows"
unfoldable pub lowest_of : ℕ → ℕ → Fraction
lowest_of part whole = cond (eqb whole 0) (fraction 0 0) (fraction (part / gcd_of part whole) (whole / gcd_of part whole))

-- d divides n
abbrev pub Divides : ℕ → ℕ → Type 0
Divides d n = (k : ℕ) × (n ≡ k * d)

-- f is this part of the whole, and nothing but 1 divides both of its numbers
pub record LowestTerms (part whole : ℕ) (f : Fraction) : Type 0 where
  pub same : part * f.whole ≡ f.part * whole
  pub some : 0 < f.whole
  pub lowest : (d : ℕ) → Divides d f.part → Divides d f.whole → d ≡ 1
