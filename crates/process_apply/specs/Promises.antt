-- What is asked and given where the steps of a template are measured and taken: the encodings that they join stand in two lists.
-- Assumes nothing: these are definitions.
use Rattle.record.specs.declared.Refusal.{Refusal}
use Rattle.std.proofs.Math.Option.{Option}
use Rattle.std.specs.Prelude.{List, map, ℕ, Result}
use Rattle.record.specs.Tree.{Encoding}
use Rattle.record.specs.declared.Spot.{Spot}
use Rattle.record.specs.declared.Written.{Written}
use Rattle.record.specs.Working.{WritesWith}
use Rattle.process_steps.specs.declared.Step.{Step}
use Rattle.process_steps.specs.Applied.{folded_into}
use Rattle.process_steps.specs.Steps.{step_encoding}
use Rattle.process_steps.specs.Promises.{StepsHere}

pub record AskApply (nodes rows : List ℕ) (s : Spot) (entries members numbers : List ℕ) (count : ℕ) : Type 0 where
  pub E : Encoding
  pub second : Option Encoding
  pub steps : List Step
  pub steps_here : StepsHere nodes rows s entries members numbers count E second steps

-- whatever the steps speak of, "the pieces are folded without growing", or refused with 2
abbrev pub Applies : List ℕ → List ℕ → Spot → List ℕ → List ℕ → List ℕ → ℕ → Result Written Refusal → List ℕ → List ℕ → List ℕ → List ℕ → List ℕ → List ℕ → List ℕ → List ℕ → Type 0
Applies nodes rows s entries members numbers count answer out out' working working' out₁ out₁' working₁ working₁' =
    (E : Encoding) (second : Option Encoding) (steps : List Step) → StepsHere nodes rows s entries members numbers count E second steps → WritesWith (folded_into (map (step_encoding entries members E second) steps) out out' working working') answer out out' working working' out₁ out₁' working₁ working₁'
