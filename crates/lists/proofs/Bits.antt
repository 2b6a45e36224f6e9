-- Numbers put together bit by bit: neither passes what they make. Assumes nothing.
use Prim.Native.Nat.{ℕ, ◌≤◌}
use native.Mathlib.Omega.{arith}
use lib.Bits.{bit_or, or_add_and, and_le_l, and_le_r}

pub left_within : (a b : ℕ) → a ≤ bit_or a b
left_within a b = omega (arith, or_add_and a b, and_le_r a b)

pub right_within : (a b : ℕ) → b ≤ bit_or a b
right_within a b = omega (arith, or_add_and a b, and_le_l a b)
