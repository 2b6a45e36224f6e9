-- A number of 64 bits by its low and its high 32 bits.
-- Assumes nothing: these are definitions.
use Rattle.std.specs.Prelude.{ℕ, ◌+◌, ◌*◌}

-- what one more in the high half is worth
abbrev pub high_worth : ℕ
high_worth = 4294967296

abbrev pub whole_of : ℕ → ℕ → ℕ
whole_of low high = low + high * high_worth
