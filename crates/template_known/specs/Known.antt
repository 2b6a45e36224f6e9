-- Whether the special ids of a template are in the table (document 01, module 8).
-- Assumes nothing: these are definitions.
use Rattle.std.specs.Prelude.{Bool, true, false, List, Result, Ok, Err}
use Rattle.std.proofs.Math.Option.{Option, none as nothing, some}
use Rattle.record.specs.declared.Refusal.{Refusal}
use Rattle.record.specs.declared.Refusal.TheVariants.{SpecialIdUnknown}
use Rattle.template_pieces.specs.Piece.{Piece, sequence_a, sequence_b, special}
use Rattle.template_entries.specs.Table.{Special}
use Rattle.template_find.specs.Last.{last_with}

abbrev pub is_there : Option Special → Bool
is_there nothing = false
is_there (some s) = true

-- whether the table has the id of a special piece
unfoldable pub known : List Special → Piece → Bool
known table (sequence_a _) = true
known table (sequence_b _) = true
known table (special _ id _) = is_there (last_with id table)

-- "10 special id unknown", of either template
unfoldable pub known_answer : Bool → Result (Unit {0}) Refusal
known_answer true = Ok tt
known_answer false = Err SpecialIdUnknown
