-- The promise of an operation that is lent a working store beside its output.
-- Assumes nothing: this is a definition.
use Rattle.record.specs.declared.Refusal.{Refusal}
use Rattle.std.specs.Prelude.{◌≡◌, List, ℕ, Result}
use Rattle.record.specs.Outcome.{Outcome, left_working, Writes}
use Rattle.lists.specs.Lists.{zeros}
use Rattle.record.specs.declared.Written.{Written}

-- Its answer and every number lent for its output afterwards, as `Writes` has it; and every number of the working store:
-- "On success .. a working store is zeroed", "6 leaves output and working store all zeros", any other refusal leaves it.
pub record WritesWith (o : Outcome) (answer : Result Written Refusal) (nodes rows working_nodes working_rows nodes' rows' working_nodes' working_rows' : List ℕ) : Type 0 where
  pub writes : Writes o answer nodes rows nodes' rows'
  pub working_nodes_left : working_nodes' ≡ left_working o working_nodes
  pub working_rows_left : working_rows' ≡ left_working o working_rows

-- two lists were all set to zero
pub record Zeroed (nodes rows nodes' rows' : List ℕ) : Type 0 where
  pub nodes_zero : nodes' ≡ zeros nodes
  pub rows_zero : rows' ≡ zeros rows
