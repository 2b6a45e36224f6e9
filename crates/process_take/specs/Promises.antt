-- What is asked and given where one step is taken.
-- Assumes nothing: these are definitions.
use Rattle.std.specs.Prelude.{◌≡◌, true, false, List, [], ◌∷◌, ℕ}
use Rattle.std.proofs.Math.Option.{Option}
use Rattle.record.specs.Tree.{Encoding, forest}
use Rattle.record.specs.Standing.{Here, Put}
use Rattle.record.specs.Outcome.{Room}
use Rattle.join_trees.specs.Join.{join}
use Rattle.join_trees.specs.Offsets.{join_fits}
use Rattle.record.specs.declared.Spot.{Spot}
use Rattle.process_steps.specs.declared.Step.{Step}
use Rattle.process_steps.specs.Promises.{StepFine, Inputs}
use Rattle.process_steps.specs.Steps.{step_encoding}

-- S stands at the front of the output; its join with what the step speaks of has room in the output and in the working
-- store, and its offsets stay within 32 bits.
pub record AskTake (nodes rows : List ℕ) (s : Spot) (entries members : List ℕ) (step : Step) (out out' working working' : List ℕ) : Type 0 where
  pub E : Encoding
  pub second : Option Encoding
  pub inputs : Inputs nodes rows s E second
  pub fine : StepFine entries members second step
  pub S : Encoding
  pub here_s : Here out out' 0 0 (forest (S ∷ []))
  pub within : join_fits false S (step_encoding entries members E second step) ≡ true
  pub room : Room out out' (forest (join false S (step_encoding entries members E second step) ∷ []))
  pub working_room : Room working working' (forest (join false S (step_encoding entries members E second step) ∷ []))

-- Whatever the step speaks of and whatever stands there, their join was written in its place.
pub record TakesStep (nodes rows : List ℕ) (s : Spot) (entries members : List ℕ) (step : Step) (out out' out₁ out₁' : List ℕ) : Type 0 where
  pub joined : (E : Encoding) (second : Option Encoding) (S : Encoding) → Inputs nodes rows s E second → StepFine entries members second step → Here out out' 0 0 (forest (S ∷ [])) → Put (join false S (step_encoding entries members E second step) ∷ []) out 0 out' 0 out₁ out₁'
