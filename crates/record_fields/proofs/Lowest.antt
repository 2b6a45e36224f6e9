-- The lowest bit of a number, found by the number's bits that its negative has too: at most 1 exactly if the number is odd
-- or 0. Assumes nothing.
use Rattle.std.proofs.Common.{◌≡◌, ℕ, zero, suc, ◌+◌, ◌/◌, ◌%◌, ◌^◌, ◌<◌, ◌≤◌, min, refl, pow-suc, arith}
use lib.Bits.{bit_and, and_step, and_le_l, or_lt, or_add_and}
use Rattle.record_fields.specs.Promises.{LowestBit}

-- two numbers that fill k bits have no bit in common
apart : (k a b : ℕ) → a + b + 1 ≡ 2 ^ k → bit_and a b ≡ 0
apart zero a b e = omega (arith, and_le_l a b)
apart (suc k) a b e = omega (arith, pow-suc 2 k, and_step a b, apart k (a / 2) (b / 2) (omega (arith, pow-suc 2 k)))

module _ (x m : ℕ) (e : m + x ≡ 18446744073709551616) where
  -- an odd number and its negative have the lowest bit alone in common
  odd_bit : x % 2 ≡ 1 → bit_and x m ≡ 1
  odd_bit o =
      let halves : x / 2 + m / 2 + 1 ≡ 9223372036854775808 = omega arith in
      let last : min (x % 2) (m % 2) ≡ 1 = omega arith in
      omega (arith, and_step x m, apart 63 (x / 2) (m / 2) halves, last)

  -- any has a bit in common with it, since their bits put together are fewer than their sum
  some_bit : x < 18446744073709551616 → m < 18446744073709551616 → 0 < bit_and x m
  some_bit k l = omega (arith, e, or_add_and x m, or_lt 64 x m k l)

-- an even number has no lowest bit of 1
even_bit : (x m : ℕ) → x % 2 ≡ 0 → bit_and x m % 2 ≡ 0
even_bit x m z =
    let last : min (x % 2) (m % 2) ≡ 0 = omega arith in
    omega (arith, and_step x m, last)

wraps : (x m : ℕ) → 0 < x → x < 18446744073709551616 → m < 18446744073709551616 → (m + x) % 18446744073709551616 ≡ 0 → m + x ≡ 18446744073709551616
wraps x m p k l e = omega arith

even_none : (x m : ℕ) → x < 18446744073709551616 → m < 18446744073709551616 → (m + x) % 18446744073709551616 ≡ 0 → x % 2 ≡ 0 → bit_and x m ≤ 1 → x ≡ 0
even_none zero m k l e z h = refl
even_none (suc x) m k l e z h = absurd (omega (arith, h, even_bit (suc x) m z, some_bit (suc x) m (wraps (suc x) m (omega arith) k l e) k l))

pub lowest_bit : (x m : ℕ) → x < 18446744073709551616 → m < 18446744073709551616 → (m + x) % 18446744073709551616 ≡ 0 → LowestBit x (bit_and x m)
lowest_bit x m k l e =
    record {
      none = λ z. omega (arith, and_le_l x m);
      odd = λ o. omega (arith, odd_bit x m (wraps x m (omega arith) k l e) o);
      even = even_none x m k l e;
    }
