-- The length for the second of a pair, as it crosses the C interface.
-- Assumes nothing: these are definitions.
use Rattle.std.specs.Prelude.{Bool, ℕ, Option}
use Rattle.std.specs.Bool.{then_some}

-- a length, or none
abbrev pub second_length_of : Bool → ℕ → Option ℕ
second_length_of has n = then_some has n
