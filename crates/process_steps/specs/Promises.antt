-- What the functions ask and give that take the steps of a template: where the steps and what they speak of stand.
-- Assumes nothing: these are definitions.
use Rattle.std.specs.Prelude.{◌≡◌, ℕ, ◌/◌, ◌<◌, ◌≤◌, length}
use Rattle.std.proofs.Math.Option.{Option, none as nothing, some}
use mathlib.Core.List.{List, ◌++◌, flat_map, [], ◌∷◌}
use Rattle.record.specs.Tree.{Encoding, forest}
use Rattle.template_entries.specs.Table.{entry_width}
use Rattle.template_entries.specs.Rows.{MembersThere}
use Rattle.process_steps.specs.declared.Step.{Step}
use Rattle.process_steps.specs.declared.Step.TheVariants.{First, Second, Special}
use Rattle.process_steps.specs.Steps.{step_numbers}
use Rattle.lists.specs.Lists.{All}
use Rattle.record.specs.Standing.{Here}
use Rattle.record.specs.declared.Spot.{Spot}
use Rattle.template_text.specs.Template.{most_parts}

-- The numbers begin with these steps.
pub record StepsAt (numbers : List ℕ) (steps : List Step) : Type 0 where
  pub rest : List ℕ
  pub is : numbers ≡ flat_map step_numbers steps ++ rest

-- the second encoding is there, the entry and its members are those of the table
abbrev pub StepFine : List ℕ → List ℕ → Option Encoding → Step → Type 0
StepFine entries members second (First t) = Unit {0}
StepFine entries members nothing (Second t) = ⊥
StepFine entries members (some F) (Second t) = Unit {0}
StepFine entries members second (Special t entry) = MembersThere entries members entry

-- the entry is one of the table, whatever its members are
abbrev pub EntryThere : List ℕ → Step → Type 0
EntryThere entries (First t) = Unit {0}
EntryThere entries (Second t) = Unit {0}
EntryThere entries (Special t entry) = entry < length entries / entry_width

-- ---- One or two encodings in two lists, and the steps themselves in numbers

-- The second encoding, if there is one, stands at the spot; else the nodes end there.
abbrev pub SecondHere : List ℕ → List ℕ → Spot → Option Encoding → Type 0
SecondHere nodes rows s nothing = length nodes ≤ s.node
SecondHere nodes rows s (some F) = Here nodes rows s.node s.row (forest (F ∷ []))

-- One or two encodings, the first at the front.
pub record Inputs (nodes rows : List ℕ) (s : Spot) (E : Encoding) (second : Option Encoding) : Type 0 where
  pub first_here : Here nodes rows 0 0 (forest (E ∷ []))
  pub second_here : SecondHere nodes rows s second

-- The numbers begin with `count` steps that speak of these encodings and of the entries and members of a table.
pub record StepsHere (nodes rows : List ℕ) (s : Spot) (entries members numbers : List ℕ) (count : ℕ) (E : Encoding) (second : Option Encoding) (steps : List Step) : Type 0 where
  pub inputs : Inputs nodes rows s E second
  pub numbered : StepsAt numbers steps
  pub counted : length steps ≡ count
  pub few : count ≤ most_parts
  pub fine : All (StepFine entries members second) steps
