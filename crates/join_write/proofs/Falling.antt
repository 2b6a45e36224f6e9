-- The measure of the cycle: three for each number of nodes that is left of the two, and one or two more by the function. It
-- falls with each call.
-- Assumes nothing.
use mathlib.Core.Path.{◌≡◌}
use Prim.Native.Nat.{ℕ, ◌+◌, ◌*◌, ◌-◌, ◌<◌}
use native.Mathlib.Omega.{arith}

-- of n numbers from i on and of m from k on
abbrev pub left_of : ℕ → ℕ → ℕ → ℕ → ℕ
left_of n i m k = 3 * ((n - i) + (m - k))

-- from a join to its windows, and from these to S with each window of P
pub windows_fall : (x : ℕ) {t : ℕ} → x + 2 ≡ t → x + 1 < t
windows_fall x e = omega arith

pub row_fall : (x : ℕ) {t : ℕ} → x + 1 ≡ t → x < t
row_fall x e = omega arith

-- a turn of a loop
pub one_less : (k : ℕ) → 0 < k → k - 1 < k
one_less k l = omega arith
