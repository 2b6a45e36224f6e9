-- How a replay program counts. Assumes nothing: these are definitions.
use Rattle.std.specs.Prelude.{◌≡◌, true, ℕ, ◌+◌, ◌≤◌, min}
use Rattle.replay_answers.specs.declared.Outcome.{Outcome}
use Rattle.replay_answers.specs.declared.Outcome.TheVariants.{Skipped, Same, Differs, Bad}
use Rattle.replay_counts.specs.declared.Progress.{Progress}

-- one more, of a count that stays at the largest u64
abbrev pub more : ℕ → ℕ
more n = min (n + 1) 18446744073709551615

-- the counts after a line: of cases, of those whose answers differ, and of lines that are bad
abbrev pub cases_after : Outcome → ℕ → ℕ
cases_after Skipped n = n
cases_after Same n = more n
cases_after Differs n = more n
cases_after Bad n = n

abbrev pub differ_after : Outcome → ℕ → ℕ
differ_after Skipped n = n
differ_after Same n = n
differ_after Differs n = more n
differ_after Bad n = n

abbrev pub bad_after : Outcome → ℕ → ℕ
bad_after Skipped n = n
bad_after Same n = n
bad_after Differs n = n
bad_after Bad n = more n

-- a line was counted as what it turned out to be
pub record Counted (before : Progress) (o : Outcome) (r : Progress) : Type 0 where
  pub lines : r.lines ≡ more before.lines
  pub cases : r.cases ≡ cases_after o before.cases
  pub differ : r.differ ≡ differ_after o before.differ
  pub bad : r.bad ≡ bad_after o before.bad

-- printing counts changes none of them, and does not undo that a write failed
pub record Kept (before r : Progress) : Type 0 where
  pub lines : r.lines ≡ before.lines
  pub cases : r.cases ≡ before.cases
  pub differ : r.differ ≡ before.differ
  pub bad : r.bad ≡ before.bad
  pub failed : before.failed ≡ true → r.failed ≡ true

-- the counts agree: a case that differs is a case, and cases and bad lines are lines
pub record Tallied (p : Progress) : Type 0 where
  pub differ_few : p.differ ≤ p.cases
  pub cases_few : p.cases ≤ p.lines
  pub bad_few : p.bad ≤ p.lines
