-- What the functions that write promise. Which bytes a call of C's writes no contract can say.
-- Assumes nothing: these are definitions.
use Rattle.std.specs.Prelude.{ℕ, ◌≤◌, ◌≡◌, true, List, length, eqb}
use Rattle.io.specs.Digits.{IsDigitCount}
use Rattle.output.specs.declared.Written.{Written}

-- so many bytes were taken, no more than there are, and all of them are told exactly if none is left
pub record WritesBytes (bytes : List ℕ) (r : Written) : Type 0 where
  pub inside : r.count ≤ length bytes
  pub told : r.all ≡ eqb r.count (length bytes)

-- a number is written whole if as many bytes were taken as it has decimal digits
abbrev pub Digits : ℕ → Written → Type 0
Digits number r = r.all ≡ true → IsDigitCount 10 1 number r.count
