-- How an answer crosses the C interface: the number of its refusal, 0 for none, and the lent numbers afterwards, which a
-- refusal leaves as they were.
-- Assumes nothing: these are definitions.
use Rattle.std.specs.Prelude.{◌≡◌, ℕ, List, Result, Ok, Err}
use Rattle.record.specs.Flat.{flat_nodes, flat_rows}
use Rattle.record.specs.Refusals.{number_of}
use Rattle.record.specs.declared.Refusal.{Refusal}
use Rattle.record.specs.Outcome.{Outcome, answered, refusal_of, counts_or, left, left_working}

pub record Crossed : Type 0 where
  pub refusal : ℕ
  pub numbers : List ℕ

abbrev pub crossed : ℕ → List ℕ → Crossed
crossed refusal numbers = record { refusal = refusal; numbers = numbers }

-- numbers in the place of those that were lent, or a refusal, which leaves them
abbrev pub crossed_of : List ℕ → Result (List ℕ) Refusal → Crossed
crossed_of was (Err k) = crossed (number_of k) was
crossed_of was (Ok numbers) = crossed 0 numbers

-- r and the lent numbers are what c says
pub record Crosses (c : Crossed) (r : ℕ) (numbers : List ℕ) : Type 0 where
  pub refusal_is : r ≡ c.refusal
  pub numbers_are : numbers ≡ c.numbers

-- ---- An operation that writes

-- its refusal, the two counts in the place of what they were, and its output
pub record WritesOut (o : Outcome) (r : ℕ) (was counts nodes rows nodes' rows' : List ℕ) : Type 0 where
  pub refusal_is : r ≡ refusal_of (answered o)
  pub counts_are : counts ≡ counts_or was (answered o)
  pub nodes_left : nodes' ≡ left flat_nodes o nodes
  pub rows_left : rows' ≡ left flat_rows o rows

-- the same, and the working store lent beside its output
pub record WritesOutWith (o : Outcome) (r : ℕ) (was counts nodes rows working_nodes working_rows nodes' rows' working_nodes' working_rows' : List ℕ) : Type 0 where
  pub writes_out : WritesOut o r was counts nodes rows nodes' rows'
  pub working_nodes_left : working_nodes' ≡ left_working o working_nodes
  pub working_rows_left : working_rows' ≡ left_working o working_rows
