-- What the functions ask and give that choose a template, and tell where the second encoding stands and whether the template can be used.
-- Assumes nothing: these are definitions.
use Rattle.std.specs.Prelude.{◌≡◌, Bool, not, ◌&&◌, cond, List, ℕ, Result, Ok, Err}
use Rattle.std.proofs.Math.Option.{Option}
use Rattle.record.specs.Tree.{Encoding}
use Rattle.record.specs.Read.{all_ok}
use Rattle.record.specs.Standing.{OneOrTwo}
use Rattle.record.specs.declared.Refusal.{Refusal}
use Rattle.record.specs.declared.Refusal.TheVariants.{BWithoutSecond}
use Rattle.record.specs.declared.Spot.{Spot}
use Rattle.template_text.specs.Template.{TemplateReading, unread, reads, read_template}
use Rattle.template_entries.specs.Table.{Special, sound, read_table}
use Rattle.template_walk.specs.Sequences.{is_b, some_ok}
use Rattle.template_known.specs.Known.{known, known_answer}
use Rattle.process_steps.specs.Promises.{Inputs}

-- ---- Where the second encoding stands

pub record OneOrTwoStored (nodes rows : List ℕ) : Type 0 where
  pub E : Encoding
  pub second : Option Encoding
  pub stores : OneOrTwo nodes rows E second

abbrev pub SecondAt : List ℕ → List ℕ → Spot → Type 0
SecondAt nodes rows s = (E : Encoding) (second : Option Encoding) → OneOrTwo nodes rows E second → Inputs nodes rows s E second

-- ---- Whether the template can be used

-- 8, 19 to 21, "11, 10 only when special tokens are added": a table, whether there is a second encoding, whether special tokens are
-- added
unfoldable pub usability : List Special → Bool → Bool → TemplateReading → Result (Unit {0}) Refusal
usability table second add (unread k) = Err k
usability table second add (reads pieces) = cond (not second && some_ok is_b pieces) (Err BWithoutSecond) (cond add (known_answer (all_ok (known table) pieces)) (Ok tt))

-- which looks only at the entries of a table, so it speaks of every table with these entries
pub record ChecksTemplate (text : List ℕ) (second add : Bool) (entries added : List ℕ) (answer : Result (Unit {0}) Refusal) : Type 0 where
  pub says : (members : List ℕ) (table : List Special) → read_table entries members added ≡ sound table → answer ≡ usability table second add (read_template text)
