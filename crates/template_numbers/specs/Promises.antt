-- What passing the sign of a number gives.
-- Assumes nothing: these are definitions.
use Rattle.std.specs.Prelude.{◌≡◌, ℕ, ◌≤◌, List, length, drop}
use Rattle.template_numbers.specs.Number.{after_sign}

-- Where the digits of a text start.
pub record SignPassed (text : List ℕ) (start : ℕ) : Type 0 where
  pub inside : start ≤ length text
  pub digits : drop start text ≡ after_sign text
