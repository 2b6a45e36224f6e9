-- What the functions ask and give by which the result of a template's steps is measured before it is built.
-- Assumes nothing: these are definitions.
use Rattle.std.specs.Prelude.{false, List, map, ℕ, Option as Answer}
use Rattle.std.proofs.Math.Option.{Option}
use Rattle.record.specs.Tree.{Encoding}
use Rattle.join_trees.specs.Join.{join, fold}
use Rattle.join_levels.specs.declared.Profile.{Profile}
use Rattle.join_levels.specs.Levels.{ProfileOf, Profiled, Measures}
use Rattle.process_steps.specs.declared.Step.{Step}
use Rattle.process_steps.specs.Promises.{StepFine, EntryThere}
use Rattle.process_steps.specs.Steps.{second_or, step_encoding}
use Rattle.record_room.specs.declared.Size.{Size}
use Rattle.join_size.specs.Promises.{Sizes}
use Rattle.process_rows.specs.Promises.{Alone, SecondStands, StepsOf}

-- whatever the steps speak of, the size of what they give, folded without growing
abbrev pub SizesSteps : List ℕ → ℕ → List ℕ → List ℕ → ℕ → Size → Type 0
SizesSteps nodes k entries numbers count s =
    (members : List ℕ) (E : Encoding) (second : Option Encoding) (steps : List Step) → StepsOf nodes k entries numbers count members E second steps → Sizes (fold false (map (step_encoding entries members E second) steps)) s

-- ---- By profiles

-- the profile of the encoding that begins at place k, if there is one; else that of the empty one
abbrev pub ProfileAt : List ℕ → ℕ → Profile → Type 0
ProfileAt nodes k p = (o : Option Encoding) → SecondStands nodes k o → ProfileOf (second_or o) p

-- the profile of any encoding that has `count` rows and no windows
abbrev pub ProfilesAlone : ℕ → Profile → Type 0
ProfilesAlone count p = (P : Encoding) → Alone P count → ProfileOf P p

-- the join of what was folded so far with any such
abbrev pub MeasuresAlone : Profile → ℕ → Answer Profile → Type 0
MeasuresAlone so_far count r = (S P : Encoding) → ProfileOf S so_far → Alone P count → Measures (join false S P) r

-- What was folded so far and the two encodings are within the limits, and the step's entry is one of the table.
pub record AskStepSize (so_far : Profile) (entries : List ℕ) (step : Step) (first second : Profile) : Type 0 where
  pub so_far_fits : Profiled so_far
  pub first_fits : Profiled first
  pub second_fits : Profiled second
  pub entry_there : EntryThere entries step

-- the join of what was folded so far with what a step joins
abbrev pub MeasuresStep : Profile → List ℕ → Step → Profile → Profile → Answer Profile → Type 0
MeasuresStep so_far entries step first second r =
    (S : Encoding) (members : List ℕ) (E : Encoding) (o : Option Encoding) → ProfileOf S so_far → ProfileOf E first → ProfileOf (second_or o) second → StepFine entries members o step → Measures (join false S (step_encoding entries members E o step)) r

-- what the steps give, whatever they speak of
abbrev pub MeasuresSteps : List ℕ → ℕ → List ℕ → List ℕ → ℕ → Answer Profile → Type 0
MeasuresSteps nodes k entries numbers count r =
    (members : List ℕ) (E : Encoding) (second : Option Encoding) (steps : List Step) → StepsOf nodes k entries numbers count members E second steps → Measures (fold false (map (step_encoding entries members E second) steps)) r
