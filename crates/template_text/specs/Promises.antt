-- What gathering the pieces of a text asks and gives.
-- Assumes nothing: these are definitions.
use Rattle.std.specs.Prelude.{◌≡◌, true, ℕ, ◌+◌, ◌*◌, ◌≤◌, length, Result}
use mathlib.Core.List.{List, [], ◌∷◌, flat_map}
use Rattle.std.proofs.lemmas.List.Edits.{sets}
use Rattle.template_parts.specs.Parts.{parts}
use Rattle.template_pieces.specs.Piece.{Piece, piece_numbers}
use Rattle.record.specs.declared.Refusal.{Refusal}
use Rattle.template_pieces.specs.declared.Name.{Name}
use Rattle.template_pieces.specs.declared.Name.TheVariants.{A, B, Special}
use Rattle.template_pieces.specs.declared.Piece.{Piece as PieceRead}
use Rattle.template_text.specs.Template.{most_bytes, most_parts, piece_width, short, reads, read_parts, template_answer}

-- a text that is short enough, and room for its pieces
pub record RoomFor (text numbers : List ℕ) : Type 0 where
  pub is_short : short text ≡ true
  pub room : length numbers ≡ most_parts * piece_width

-- the answer, and the numbers of the pieces from the first place on
pub record Gathered (text numbers : List ℕ) (answer : Result ℕ Refusal) (numbers' : List ℕ) : Type 0 where
  pub answers : answer ≡ template_answer (read_parts 0 0 (parts text))
  pub kept : length numbers' ≡ length numbers
  pub written : (ps : List Piece) → read_parts 0 0 (parts text) ≡ reads ps → numbers' ≡ sets numbers 0 (flat_map piece_numbers ps)

-- an id that lies in a text that is short enough
abbrev pub SmallId : Name → Type 0
SmallId A = Unit {0}
SmallId B = Unit {0}
SmallId (Special start size) = start + size ≤ most_bytes

-- a name with a type in numbers: kind, type, id start and length, 0 for A and B
abbrev pub name_numbers : Name → ℕ → List ℕ
name_numbers A type = 0 ∷ type ∷ 0 ∷ 0 ∷ []
name_numbers B type = 1 ∷ type ∷ 0 ∷ 0 ∷ []
name_numbers (Special start size) type = 2 ∷ type ∷ start ∷ size ∷ []

abbrev pub told_numbers : PieceRead → List ℕ
told_numbers p = name_numbers p.name p.type_id
