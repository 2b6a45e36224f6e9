-- What the functions that write a fold ask and give.
-- Assumes nothing: these are definitions.
use Rattle.std.specs.Prelude.{List, ℕ}
use Rattle.record.specs.Working.{Zeroed}

-- (What `write_fold` asks and gives is what is asked and given where a batch is folded one by one: `AskFold`, `WritesFold` of fold_each.)

-- ---- An offset that is too large

-- "6 leaves output and working store all zeros"
pub record ZeroedAll (out out' working working' out₁ out₁' working₁ working₁' : List ℕ) : Type 0 where
  pub output : Zeroed out out' out₁ out₁'
  pub working_store : Zeroed working working' working₁ working₁'
