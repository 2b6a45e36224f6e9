-- What planning asks and gives: what comes at a place to the plan, by the piece that was read and the entries of a table, whose
-- members are not needed for it; and the steps of a template whose pieces can be read.
-- Assumes nothing: these are definitions.
use Rattle.std.specs.Prelude.{◌≡◌, Bool, true, false, cond, ℕ, ◌+◌, ◌*◌, ◌/◌, ◌≤◌, length, Option as Answer, Some, None, Result, Ok, Err}
use Rattle.std.proofs.Math.Option
use Rattle.std.proofs.Math.Option.{Option, none as nothing, some}
use mathlib.Core.List.{List, flat_map, map}
use Rattle.record.specs.Tree.{Encoding}
use Rattle.lists.specs.Lists.{All}
use Rattle.record.specs.Read.{all_ok}
use Rattle.lookup_ranges.specs.First.{last_from, part}
use Rattle.template_pieces.specs.Piece.{Piece}
use Rattle.template_text.specs.Template.{reads, most_parts, piece_width, short, read_template}
use Rattle.template_text.specs.Comes.{Coming, comes_at}
use Rattle.template_pieces.specs.declared.Name.{Name}
use Rattle.template_pieces.specs.declared.Name.TheVariants.{A, B, Special as SpecialName}
use Rattle.template_pieces.specs.declared.Piece.{Piece as PieceRead}
use Rattle.record.specs.declared.Refusal.{Refusal}
use Rattle.record.specs.declared.Refusal.TheVariants.{SpecialIdUnknown}
use Rattle.template_entries.specs.Table.{Special, entry_width, most_entries, entries_in, sound, read_table}
use Rattle.template_find.specs.Promises.{IdsInside, entry_has_id}
use Rattle.template_known.specs.Known.{known}
use Rattle.process_steps.specs.declared.Step.{Step}
use Rattle.process_steps.specs.declared.Step.TheVariants.{First, Second, Special as SpecialStep}
use Rattle.process_steps.specs.Applied.{applied, lacks_second}
use Rattle.process_steps.specs.Promises.{StepsAt, StepFine}
use Rattle.process_steps.specs.Steps.{step_encoding}
use Rattle.process_plan.specs.declared.NextStep.{NextStep}

-- ---- The step of one piece

-- the step of the entry with an id, with a type: "of equal ids the last counts"; an unknown id has no step
unfoldable pub special_step : List ℕ → List ℕ → ℕ → List ℕ → Option Step
special_step entries added t id = Option.map (SpecialStep t) (last_from (entry_has_id added id) 0 (entries_in entries))

-- "10 special id unknown"
abbrev pub known_step : Option Step → Result (Answer Step) Refusal
known_step nothing = Err SpecialIdUnknown
known_step (some s) = Ok (Some s)

-- by the name of a piece and its type: "special pieces only if special tokens are added"
abbrev pub name_step : List ℕ → List ℕ → Bool → List ℕ → Name → ℕ → Result (Answer Step) Refusal
name_step entries added add text A t = Ok (Some (First t))
name_step entries added add text B t = Ok (Some (Second t))
name_step entries added add text (SpecialName start size) t = cond add (known_step (special_step entries added t (part start (start + size) text))) (Ok None)

unfoldable pub step_of : List ℕ → List ℕ → Bool → List ℕ → PieceRead → Result (Answer Step) Refusal
step_of entries added add text piece = name_step entries added add text piece.name piece.type_id

-- ---- What comes at a place to the plan, and the place after it

abbrev pub planned_next : ℕ → Result (Answer Step) Refusal → Result (Answer NextStep) Refusal
planned_next next (Err why) = Err why
planned_next next (Ok step) = Ok (Some (record { step = step; next = next }))

abbrev pub coming_step : List ℕ → List ℕ → Bool → List ℕ → Coming → Result (Answer NextStep) Refusal
coming_step entries added add text (Err why) = Err why
coming_step entries added add text (Ok None) = Ok None
coming_step entries added add text (Ok (Some coming)) = planned_next coming.next (step_of entries added add text coming.piece)

unfoldable pub next_step : List ℕ → List ℕ → Bool → List ℕ → ℕ → Result (Answer NextStep) Refusal
next_step entries added add text at = coming_step entries added add text (comes_at text at)

-- ---- The steps of all

-- A table whose ids lie in pool 1, and whose entries are few.
pub record TableFits (entries added : List ℕ) : Type 0 where
  pub ids : IdsInside entries added
  pub few : length entries / entry_width ≤ most_entries

-- the id of a special piece lies in the text
abbrev pub IdInside : List ℕ → Name → Type 0
IdInside text A = Unit {0}
IdInside text B = Unit {0}
IdInside text (SpecialName start size) = start + size ≤ length text

-- Such a piece, and such a table.
pub record AskPieceStep (text : List ℕ) (piece : PieceRead) (entries added : List ℕ) : Type 0 where
  pub table_fits : TableFits entries added
  pub id_inside : IdInside text piece.name

-- A short text, such a table, and room for as many steps as a template has parts.
pub record AskPlan (text entries added steps : List ℕ) : Type 0 where
  pub table_fits : TableFits entries added
  pub is_short : short text ≡ true
  pub room : length steps ≡ most_parts * piece_width

-- the steps, which join what the pieces become
pub record Planned (entries members : List ℕ) (table : List Special) (pieces : List Piece) (add : Bool) (answer : Result ℕ Refusal) (steps' : List ℕ) : Type 0 where
  pub planned : List Step
  pub answers : answer ≡ Ok (length planned)
  pub few : length planned ≤ most_parts
  pub numbers : StepsAt steps' planned
  pub fine : (second : Option Encoding) → lacks_second second pieces ≡ false → All (StepFine entries members second) planned
  pub made : (E : Encoding) (second : Option Encoding) → lacks_second second pieces ≡ false → map (step_encoding entries members E second) planned ≡ flat_map (applied table add E second) pieces

-- of a text that can be read, whose special ids are known if special tokens are added
abbrev pub Plans : List ℕ → Bool → List ℕ → List ℕ → Result ℕ Refusal → List ℕ → Type 0
Plans text add entries added answer steps' =
    (members : List ℕ) (table : List Special) (pieces : List Piece) → read_table entries members added ≡ sound table → read_template text ≡ reads pieces → (add ≡ true → all_ok (known table) pieces ≡ true) → Planned entries members table pieces add answer steps'
