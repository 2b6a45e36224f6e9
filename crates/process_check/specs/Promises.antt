-- What the functions ask and give that decide whether a template can be applied, and by which steps.
-- Assumes nothing: these are definitions.
use Rattle.std.specs.Prelude.{◌≡◌, Bool, true, false, List, map, ℕ, eqb, Result, Ok, Err}
use Rattle.std.proofs.Math.Option.{Option}
use Rattle.record.specs.Tree.{Encoding}
use Rattle.record.specs.Read.{all_ok}
use Rattle.record.specs.Refusals.{number_of}
use Rattle.record.specs.Outcome.{Outcome, refused as refused_outcome}
use Rattle.record.specs.declared.Refusal.{Refusal}
use Rattle.record.specs.declared.Spot.{Spot}
use Rattle.template_pieces.specs.Piece.{Piece}
use Rattle.template_text.specs.Template.{reads, read_template}
use Rattle.template_entries.specs.Table.{Special}
use Rattle.template_known.specs.Known.{known}
use Rattle.process_steps.specs.declared.Step.{Step}
use Rattle.process_steps.specs.Applied.{lacks_second, folded_into}
use Rattle.process_steps.specs.Steps.{step_encoding}
use Rattle.process_steps.specs.Promises.{StepsHere}
use Rattle.process_check.specs.declared.Take.{Take}

-- ---- The decision: of an outcome by the output and the working store, what is known without them

-- Refused, whatever they are; and not with 6, the one refusal that changes a buffer.
pub record RefusedBy (outcome : List ℕ → List ℕ → List ℕ → List ℕ → Outcome) (k : Refusal) : Type 0 where
  pub told : (out out' working working' : List ℕ) → outcome out out' working working' ≡ refused_outcome k
  pub not_six : eqb (number_of k) 6 ≡ false

-- Steps stand there, and the outcome is the fold of what they speak of, without growing.
pub record TakenBy (outcome : List ℕ → List ℕ → List ℕ → List ℕ → Outcome) (nodes rows entries members numbers : List ℕ) (s : Spot) (count : ℕ) : Type 0 where
  pub E : Encoding
  pub second : Option Encoding
  pub steps : List Step
  pub steps_here : StepsHere nodes rows s entries members numbers count E second steps
  pub folded : (out out' working working' : List ℕ) → outcome out out' working working' ≡ folded_into (map (step_encoding entries members E second) steps) out out' working working'

abbrev pub DecidesProcess : (List ℕ → List ℕ → List ℕ → List ℕ → Outcome) → List ℕ → List ℕ → List ℕ → List ℕ → List ℕ → Result Take Refusal → Type 0
DecidesProcess outcome nodes rows entries members numbers (Err k) = RefusedBy outcome k
DecidesProcess outcome nodes rows entries members numbers (Ok t) = TakenBy outcome nodes rows entries members numbers t.second t.count

-- ---- What passed

-- The template can be read, names the second encoding only if there is one, and its ids are known if they are needed.
pub record Usable (text : List ℕ) (add : Bool) (second : Option Encoding) (table : List Special) (pieces : List Piece) : Type 0 where
  pub reads : read_template text ≡ reads pieces
  pub has_second : lacks_second second pieces ≡ false
  pub all_known : add ≡ true → all_ok (known table) pieces ≡ true
