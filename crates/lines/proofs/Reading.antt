-- A number that is being read: what holds after each digit, and the answer at each way out. Assumes nothing.
use Prim.Native.Nat.{ℕ, suc, ◌+◌, ◌-◌, ◌*◌, ◌≤◌, ◌<◌}
use mathlib.Core.Path.{◌≡◌, refl, ◌∙◌}
use mathlib.Core.Bool.{Bool, true, false}
use mathlib.Core.List.{List, []}
use lib.ListN.{length, get_or, drop}
use borrow.Author.Tests.{le-leb, lt-leb}
use native.Mathlib.Omega.{arith}
use Rattle.std.specs.Prelude.{Some, None}
use Rattle.lines.specs.Decimal.{zero_byte, nine_byte, most_digits, largest_u32, both, digits_of, decimal, decimal_after, read_of, number_at}
use Rattle.lines.proofs.Digits.{digits_more, decimal_at_least}

-- The digits from `at` up to i have this value, and the rest are those from i on.
pub record Reading (bytes : List ℕ) (at i value : ℕ) : Type 0 where
  pub after : at ≤ i
  pub few : i ≤ at + most_digits
  pub small : value ≤ largest_u32
  pub count : length (digits_of (drop at bytes)) ≡ i - at + length (digits_of (drop i bytes))
  pub whole : decimal (digits_of (drop at bytes)) ≡ decimal_after value (digits_of (drop i bytes))

pub start : (bytes : List ℕ) (at : ℕ) → Reading bytes at at 0
start bytes at = record { after = omega arith; few = omega arith; small = omega arith; count = omega arith; whole = refl }

both_false : (b : Bool) → both b false ≡ false
both_false true = refl
both_false false = refl

-- so many digits are no number
too_many : (at count value : ℕ) → most_digits < count → None ≡ read_of at count value
too_many at count value many = rw (lt-leb count most_digits many, both_false)

-- a value so large is no number
too_large : (at count value : ℕ) → largest_u32 < value → None ≡ read_of at count value
too_large at count value large = rw (lt-leb value largest_u32 large, both_false, both_false)

-- A digit stands at i.
module _ (bytes : List ℕ) (at i value : ℕ) (r : Reading bytes at i value) (inside : i < length bytes) (low : zero_byte ≤ get_or bytes i 0) (high : get_or bytes i 0 ≤ nine_byte) where
  abbrev next : ℕ
  next = value * 10 + (get_or bytes i 0 - zero_byte)

  one_more : length (digits_of (drop at bytes)) ≡ i + 1 - at + length (digits_of (drop (i + 1) bytes))
  one_more =
      let longer : length (digits_of (drop i bytes)) ≡ suc (length (digits_of (drop (i + 1) bytes))) = rw (digits_more bytes i inside low high) in
      omega (arith, r.after, r.count)

  whole_next : decimal (digits_of (drop at bytes)) ≡ decimal_after next (digits_of (drop (i + 1) bytes))
  unfolding decimal_after
  whole_next = r.whole ∙ rw (digits_more bytes i inside low high)

  pub more : i < at + most_digits → next ≤ largest_u32 → Reading bytes at (i + 1) next
  more room fits = record { after = omega arith; few = omega arith; small = fits; count = one_more; whole = whole_next }

  pub ends_too_many : i - at ≡ most_digits → None ≡ number_at bytes at
  ends_too_many full =
      too_many at (length (digits_of (drop at bytes))) (decimal (digits_of (drop at bytes))) (omega (arith, one_more))

  pub ends_too_large : largest_u32 < next → None ≡ number_at bytes at
  ends_too_large large =
      too_large at (length (digits_of (drop at bytes))) (decimal (digits_of (drop at bytes))) (omega (arith, whole_next, decimal_at_least next (digits_of (drop (i + 1) bytes))))

-- No digit stands at i.
module _ (bytes : List ℕ) (at i value : ℕ) (r : Reading bytes at i value) (stop : digits_of (drop i bytes) ≡ []) where
  count_is : length (digits_of (drop at bytes)) ≡ i - at
  count_is = let none : length (digits_of (drop i bytes)) ≡ 0 = rw stop in omega (arith, r.count)

  value_is : decimal (digits_of (drop at bytes)) ≡ value
  unfolding decimal_after
  value_is = r.whole ∙ rw stop

  pub ends_without : i ≡ at → None ≡ number_at bytes at
  ends_without same =
      let none : length (digits_of (drop at bytes)) ≡ 0 = omega (arith, count_is) in
      rw none

  pub ends_with : (i ≡ at → ⊥) → Some (record { value = value; next = i }) ≡ number_at bytes at
  ends_with some =
      let place : at + (i - at) ≡ i = omega (arith, r.after) in
      rw (count_is, value_is, le-leb 1 (i - at) (omega (arith, r.after)), le-leb (i - at) most_digits (omega (arith, r.few)), le-leb value largest_u32 r.small, place)
