-- What the walk over a template's special ids gives. It looks only at the entries of a table, so it speaks of every table with
-- these entries.
-- Assumes nothing: these are definitions.
use Rattle.std.specs.Prelude.{◌≡◌, ◌&&◌, ℕ, List, Result}
use Rattle.record.specs.Read.{all_ok}
use Rattle.template_pieces.specs.Piece.{Piece}
use Rattle.template_text.specs.Template.{reads, read_template}
use Rattle.template_entries.specs.Table.{Special, sound, read_table}
use Rattle.record.specs.declared.Refusal.{Refusal}
use Rattle.template_known.specs.Known.{known, known_answer}

pub record KnownIn (text entries added : List ℕ) (answer : Result (Unit {0}) Refusal) : Type 0 where
  pub says : (members : List ℕ) (table : List Special) (pieces : List Piece) → read_table entries members added ≡ sound table → read_template text ≡ reads pieces → answer ≡ known_answer (all_ok (known table) pieces)

pub record KnownBoth (single pair entries added : List ℕ) (answer : Result (Unit {0}) Refusal) : Type 0 where
  pub says : (members : List ℕ) (table : List Special) (s p : List Piece) → read_table entries members added ≡ sound table → read_template single ≡ reads s → read_template pair ≡ reads p
      → answer ≡ known_answer (all_ok (known table) s && all_ok (known table) p)
