-- Where a case lies among the numbers that were read.
-- Assumes nothing: these are definitions.
use Rattle.std.specs.Prelude.{Bool, true, false, ℕ, ◌≤◌, Result, Ok, Err}
use Rattle.replay_program.specs.declared.Case.{Case}
use Rattle.replay_program.specs.declared.NoCase.{NoCase}
use Rattle.replay_program.specs.declared.NoCase.TheVariants.{Skipped, Bad}

-- Stated so that its lists, and what follows them, can be lent with no proof.
pub record Inside (r : Case) (total : ℕ) : Type 0 where
  pub first : r.first.start ≤ r.first.end
  pub first_inside : r.first.end ≤ total
  pub second : r.second.start ≤ r.second.end
  pub second_inside : r.second.end ≤ total
  pub rest : r.second.end ≤ r.end
  pub rest_inside : r.end ≤ total

-- whether a line is one that is skipped
abbrev pub is_skipped : Result Case NoCase → Bool
is_skipped (Err Skipped) = true
is_skipped (Err Bad) = false
is_skipped (Ok case) = false
