-- A number as text: its last digit and those before it, and how many there are.
-- Assumes nothing.
use mathlib.Core.Path.{◌≡◌, refl, sym, ap, ◌∙◌}
use mathlib.Core.Bool.{Bool, true, false, cond}
use Prim.Native.Nat.{ℕ, zero, suc, ◌+◌, ◌-◌, ◌/◌, ◌%◌, ◌^◌, ◌≤◌, ◌<◌}
use native.Mathlib.Nat.{add-suc, mod-eq_of_lt, div-lt_iff_lt-mul, pow-suc}
use native.Mathlib.Omega.{arith}
use mathlib.Core.List.{List, [], ◌∷◌, ◌++◌}
use lib.Dec.{ltb}
use lib.ListN.{length, length-append}
use borrow.Author.Tests.{ltb-true, ltb-false, lt-ltb, le-ltb}
use Rattle.lines.specs.Decimal.{zero_byte, most_digits, largest_u32}
use Rattle.listing_text.specs.Text.{digits_up_to, number_text, long_digits, largest_long, long_text}

-- the last digit
abbrev pub last_of : ℕ → List ℕ
last_of n = (zero_byte + n % 10) ∷ []

pub digits_one : (most n : ℕ) → n < 10 → digits_up_to (suc most) n ≡ last_of n
unfolding digits_up_to
digits_one most n h = rw (lt-ltb n 10 h)

pub digits_more : (most n : ℕ) → 9 < n → digits_up_to (suc most) n ≡ digits_up_to most (n / 10) ++ last_of n
unfolding digits_up_to
digits_more most n h = rw (le-ltb n 10 (omega arith))

-- no more than asked
pub digits_few : (most n : ℕ) → length (digits_up_to most n) ≤ most
unfolding digits_up_to
digits_few zero n = omega arith
digits_few (suc most) n = go (ltb n 10) (digits_few most (n / 10))
  where
    go : (b : Bool) → length (digits_up_to most (n / 10)) ≤ most → length (cond b [] (digits_up_to most (n / 10)) ++ last_of n) ≤ suc most
    go true h = omega arith
    go false h = omega (arith, length-append (digits_up_to most (n / 10)) (last_of n))

-- more digits than a number has are not used
digits_enough : (more most n : ℕ) → n < 10 ^ suc most → digits_up_to (more + suc most) n ≡ digits_up_to (suc most) n
digits_enough more zero n h = rw (add-suc more zero, digits_one (more + zero) n h, digits_one 0 n h)
digits_enough more (suc most) n h = go (ltb n 10) refl (digits_enough more most (n / 10) ((div-lt_iff_lt-mul (omega arith)).1 (rw (pow-suc 10 (suc most)) at h)))
  where
    go : (b : Bool) → ltb n 10 ≡ b → digits_up_to (more + suc most) (n / 10) ≡ digits_up_to (suc most) (n / 10) → digits_up_to (more + suc (suc most)) n ≡ digits_up_to (suc (suc most)) n
    go true e d = let l = ltb-true n 10 e in rw (add-suc more (suc most), digits_one (more + suc most) n l, digits_one (suc most) n l)
    go false e d =
        let l : 9 < n = omega (arith, ltb-false n 10 e) in
        rw (add-suc more (suc most), digits_more (more + suc most) n l, digits_more (suc most) n l, d)

-- a number as text, from its last digit
module _ (n : ℕ) where
  pub number_few : length (number_text n) ≤ most_digits
  number_few = digits_few most_digits n

  pub long_few : length (long_text n) ≤ long_digits
  long_few = digits_few long_digits n

  pub long_one : n < 10 → long_text n ≡ (zero_byte + n) ∷ []
  long_one h = digits_one _ n h ∙ ap (λ (d : ℕ). (zero_byte + d) ∷ []) (mod-eq_of_lt h)

  pub long_more : 9 < n → n ≤ largest_long → long_text n ≡ long_text (n / 10) ++ last_of n
  long_more h l = digits_more _ n h ∙ ap (◌++ last_of n) (sym (digits_enough 1 (long_digits - 2) (n / 10) (omega arith)))

  pub long_longer : 9 < n → n ≤ largest_long → length (long_text n) ≡ length (long_text (n / 10)) + 1
  long_longer h l = ap length (long_more h l) ∙ length-append (long_text (n / 10)) (last_of n)

  -- 10 digits are enough for a number of 32 bits, so the two texts are one
  pub long_short : n ≤ largest_u32 → long_text n ≡ number_text n
  long_short l = digits_enough (long_digits - most_digits) (most_digits - 1) n (omega arith)
