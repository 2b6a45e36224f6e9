-- A length rounded up to a multiple (document 01, "Pad batch", and document 02, request 05).
-- Assumes nothing: these are definitions.
use Rattle.std.specs.Prelude.{cond, ◌≡◌, ℕ, ◌*◌, ◌≤◌, ◌<◌, eqb}
use Rattle.fractions.specs.Fractions.{Divides}
use Rattle.cut_plan.specs.Cut.{ceiling}

-- "rounded up to a multiple; multiple 0 means none"
unfoldable pub rounded_up : ℕ → ℕ → ℕ
rounded_up length multiple = cond (eqb multiple 0) length (ceiling length multiple * multiple)

-- "the least one not below the length that the multiple divides"
pub record LeastMultiple (length multiple n : ℕ) : Type 0 where
  pub not_below : length ≤ n
  pub divides : Divides multiple n
  pub least : (m : ℕ) → length ≤ m → Divides multiple m → n ≤ m

-- the largest number of 64 bits
abbrev pub largest_u64 : ℕ
largest_u64 = 18446744073709551615

-- "The rounded length, a 64-bit number, is […] the least one not below the length that the multiple divides, or the length
-- itself for multiple 0": wherever there is such a number m of 64 bits, which at length 2^64 - 1 and multiple 2 there is not
-- (`corner`)
pub record RoundedLength (length multiple n : ℕ) : Type 0 where
  pub least : 0 < multiple → (m : ℕ) → length ≤ m → Divides multiple m → m ≤ largest_u64 → LeastMultiple length multiple n
  pub unrounded : multiple ≡ 0 → n ≡ length
