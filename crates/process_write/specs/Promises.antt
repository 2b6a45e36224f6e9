-- What writing the steps of a template asks and gives: the encodings that they join stand in two lists.
-- Assumes nothing: these are definitions.
use Rattle.std.specs.Prelude.{◌≡◌, true, false, List, [], ◌∷◌, map, ℕ}
use Rattle.std.proofs.Math.Option.{Option}
use Rattle.record.specs.Tree.{Encoding, forest}
use Rattle.record.specs.Standing.{Put}
use Rattle.record.specs.Outcome.{Room}
use Rattle.record.specs.declared.Spot.{Spot}
use Rattle.join_trees.specs.Join.{fold}
use Rattle.join_trees.specs.Offsets.{fold_fits}
use Rattle.process_steps.specs.declared.Step.{Step}
use Rattle.process_steps.specs.Steps.{step_encoding}
use Rattle.process_steps.specs.Promises.{StepsHere}

-- The fold of what the steps speak of has room in the output and in the working store, and its offsets stay within 32 bits.
pub record Ready (nodes rows : List ℕ) (s : Spot) (entries members numbers : List ℕ) (count : ℕ) (out out' working working' : List ℕ) (E : Encoding) (second : Option Encoding) (steps : List Step) : Type 0 where
  pub steps_here : StepsHere nodes rows s entries members numbers count E second steps
  pub within : fold_fits false (map (step_encoding entries members E second) steps) ≡ true
  pub room : Room out out' (forest (fold false (map (step_encoding entries members E second) steps) ∷ []))
  pub working_room : Room working working' (forest (fold false (map (step_encoding entries members E second) steps) ∷ []))

pub record AskWrite (nodes rows : List ℕ) (s : Spot) (entries members numbers : List ℕ) (count : ℕ) (out out' working working' : List ℕ) : Type 0 where
  pub E : Encoding
  pub second : Option Encoding
  pub steps : List Step
  pub ready : Ready nodes rows s entries members numbers count out out' working working' E second steps

-- Whatever the steps speak of, the fold of it was written from the front of the output on.
pub record WritesSteps (nodes rows : List ℕ) (s : Spot) (entries members numbers : List ℕ) (count : ℕ) (out out' working working' out₁ out₁' : List ℕ) : Type 0 where
  pub folded : (E : Encoding) (second : Option Encoding) (steps : List Step) → Ready nodes rows s entries members numbers count out out' working working' E second steps → Put (fold false (map (step_encoding entries members E second) steps) ∷ []) out 0 out' 0 out₁ out₁'
