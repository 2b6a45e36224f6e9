-- What the digits at a place are, by the byte that stands there; and that a further digit never makes a number smaller.
-- Assumes nothing.
use Prim.Native.Nat.{ℕ, ◌+◌, ◌-◌, ◌*◌, ◌≤◌, ◌<◌}
use mathlib.Core.Path.{◌≡◌}
use mathlib.Core.List.{List, [], ◌∷◌}
use lib.ListN.{length, get_or, drop, drop_of_length-le}
use lib.Seq.{drop-cons}
use borrow.Author.Tests.{le-leb, lt-leb}
use native.Mathlib.Numerals.{add-one}
use native.Mathlib.Omega.{arith}
use Rattle.lines.specs.Decimal.{zero_byte, nine_byte, digits_of, decimal_after}

-- The digits of a text from place i on.
module _ (bytes : List ℕ) (i : ℕ) where
  pub digits_end : length bytes ≤ i → digits_of (drop i bytes) ≡ []
  unfolding digits_of
  digits_end end = rw (drop_of_length-le bytes end)

  pub digits_below : i < length bytes → get_or bytes i 0 < zero_byte → digits_of (drop i bytes) ≡ []
  unfolding digits_of
  digits_below inside below = rw (drop-cons bytes i 0 inside, digits_of, lt-leb zero_byte (get_or bytes i 0) below)

  pub digits_above : i < length bytes → zero_byte ≤ get_or bytes i 0 → nine_byte < get_or bytes i 0 → digits_of (drop i bytes) ≡ []
  unfolding digits_of
  digits_above inside low above =
      rw (drop-cons bytes i 0 inside, digits_of, le-leb zero_byte (get_or bytes i 0) low, lt-leb (get_or bytes i 0) nine_byte above)

  pub digits_more : i < length bytes → zero_byte ≤ get_or bytes i 0 → get_or bytes i 0 ≤ nine_byte
      → digits_of (drop i bytes) ≡ get_or bytes i 0 ∷ digits_of (drop (i + 1) bytes)
  unfolding digits_of
  digits_more inside low high =
      rw (add-one, drop-cons bytes i 0 inside, digits_of, le-leb zero_byte (get_or bytes i 0) low, le-leb (get_or bytes i 0) nine_byte high)

pub decimal_at_least : (n : ℕ) (digits : List ℕ) → n ≤ decimal_after n digits
unfolding decimal_after
decimal_at_least n [] = omega arith
decimal_at_least n (digit ∷ digits) = omega (arith, decimal_at_least (n * 10 + (digit - zero_byte)) digits)
