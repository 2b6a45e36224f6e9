-- The halves of a number make it up.
-- Assumes nothing.
use mathlib.Core.Path.{◌≡◌}
use Prim.Native.Nat.{ℕ, ◌/◌, ◌%◌}
use native.Mathlib.Nat.{div-add-mod'}
use native.Mathlib.Omega.{arith}
use Rattle.replay_halves.specs.Halves.{high_worth, whole_of}

pub halves_whole : (n : ℕ) → whole_of (n % high_worth) (n / high_worth) ≡ n
halves_whole n = omega (arith, div-add-mod' n high_worth)
