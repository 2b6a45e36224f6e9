-- What the functions ask and give that tell the rows of what a template's steps give, where no encoding has windows.
-- Assumes nothing: these are definitions.
use Rattle.std.specs.Prelude.{◌≡◌, Bool, false, List, map, ℕ, ◌≤◌, eqb, length}
use Rattle.std.proofs.Math.Option.{Option, none as nothing, some}
use Rattle.record.specs.Tree.{Encoding, windows}
use Rattle.join_trees.specs.Join.{fold}
use Rattle.process_steps.specs.declared.Step.{Step}
use Rattle.process_steps.specs.declared.Step.TheVariants.{First, Second, Special}
use Rattle.process_steps.specs.Promises.{StepFine, StepsAt}
use Rattle.process_steps.specs.Steps.{second_or, step_encoding}
use Rattle.lists.specs.Lists.{All}
use Rattle.template_text.specs.Template.{most_parts}
use Rattle.template_entries.specs.Rows.{members_of}
use Rattle.join_levels_stored.specs.Promises.{EncodingAt}

-- ---- All steps

-- the second encoding, if there is one, begins at place k
abbrev pub SecondStands : List ℕ → ℕ → Option Encoding → Type 0
SecondStands nodes k nothing = length nodes ≤ k
SecondStands nodes k (some F) = EncodingAt nodes k F

-- The encodings stand in the nodes, and the numbers begin with `count` steps that speak of them.
pub record StepsOf (nodes : List ℕ) (k : ℕ) (entries numbers : List ℕ) (count : ℕ) (members : List ℕ) (E : Encoding) (second : Option Encoding) (steps : List Step) : Type 0 where
  pub first_stands : EncodingAt nodes 0 E
  pub second_stands : SecondStands nodes k second
  pub numbered : StepsAt numbers steps
  pub counted : length steps ≡ count
  pub few : count ≤ most_parts
  pub fine : All (StepFine entries members second) steps

pub record AskSteps (nodes : List ℕ) (k : ℕ) (entries numbers : List ℕ) (count : ℕ) : Type 0 where
  pub members : List ℕ
  pub E : Encoding
  pub second : Option Encoding
  pub steps : List Step
  pub steps_of : StepsOf nodes k entries numbers count members E second steps

-- ---- An encoding that may be there: where there is none, the empty one counts

-- one begins at place k, or there is none
pub record AskAt (nodes : List ℕ) (k : ℕ) : Type 0 where
  pub there : Option Encoding
  pub stands : SecondStands nodes k there

-- whether it has no windows
abbrev pub WindowlessAt : List ℕ → ℕ → Bool → Type 0
WindowlessAt nodes k b = (o : Option Encoding) → SecondStands nodes k o → b ≡ eqb (length (windows (second_or o))) 0

-- its own rows
abbrev pub SecondRows : List ℕ → ℕ → ℕ → Type 0
SecondRows nodes k n = (o : Option Encoding) → SecondStands nodes k o → n ≡ length (second_or o).rows

-- ---- Where there are no windows

-- E has n rows and no windows.
pub record Alone (E : Encoding) (n : ℕ) : Type 0 where
  pub no_windows : length (windows E) ≡ 0
  pub rows_are : length E.rows ≡ n

-- the rows of what a step joins, from those of the two encodings
abbrev pub step_rows : List ℕ → ℕ → ℕ → Step → ℕ
step_rows entries a b (First t) = a
step_rows entries a b (Second t) = b
step_rows entries a b (Special t entry) = (members_of entries entry).count

-- the rows of what the steps give, whatever they speak of, if it has no windows
abbrev pub AddsRows : List ℕ → ℕ → List ℕ → List ℕ → ℕ → ℕ → Type 0
AddsRows nodes k entries numbers count n =
    (members : List ℕ) (E : Encoding) (second : Option Encoding) (steps : List Step) → StepsOf nodes k entries numbers count members E second steps → length (windows E) ≡ 0 → length (windows (second_or second)) ≡ 0 → Alone (fold false (map (step_encoding entries members E second) steps)) n
