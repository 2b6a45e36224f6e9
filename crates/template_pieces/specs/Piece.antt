-- The piece that a part of a template is, or why it is none (document 01, module 7; document 02, request 02).
-- Assumes nothing: these are definitions.
use Rattle.std.specs.Prelude.{Bool, true, false, ◌&&◌, ◌||◌, cond, ℕ, List, [], ◌∷◌, eqb, length, Result, Ok, Err}
use Rattle.std.proofs.Math.Option.{Option, none as nothing, some, map}
use Rattle.template_parts.specs.Split.{split}
use Rattle.template_numbers.specs.Number.{read_number}
use Rattle.record.specs.declared.Why.{Why}
use Rattle.record.specs.declared.Why.TheVariants.{MoreThanOneColon, BadTypeNumber, UnknownSequenceName}
use Rattle.template_pieces.specs.declared.Name.TheVariants.{A, B, Special}
use Rattle.template_pieces.specs.declared.Piece.{Piece as PieceRead}

-- A sequence with its type; or a special id, with its place in the text and its type.
pub data Piece : Type 0 where
  sequence_a : ℕ → Piece
  sequence_b : ℕ → Piece
  special : ℕ → List ℕ → ℕ → Piece

-- What a part is: a piece, or unreadable, and why.
pub data PartReading : Type 0 where
  unreadable : Why → PartReading
  readable : Piece → PartReading

-- the bytes `$`, `:`, `A`, `a`, `B`, `b`
abbrev pub dollar : ℕ
dollar = 36

abbrev pub colon : ℕ
colon = 58

abbrev pub upper_a : ℕ
upper_a = 65

abbrev pub lower_a : ℕ
lower_a = 97

abbrev pub upper_b : ℕ
upper_b = 66

abbrev pub lower_b : ℕ
lower_b = 98

-- whether two texts have the same bytes
unfoldable pub same : List ℕ → List ℕ → Bool
same [] [] = true
same [] (b ∷ rest) = false
same (a ∷ text) [] = false
same (a ∷ text) (b ∷ rest) = eqb a b && same text rest

-- "`$`, `$A`, `$a` are A type 0; `$B`, `$b` are B type 0; `$n` is A type n"; "Another text after `$` is unreadable"
unfoldable pub sequence_of : List ℕ → Option Piece
sequence_of name =
    cond (same name [] || (same name (upper_a ∷ []) || same name (lower_a ∷ []))) (some (sequence_a 0))
    (cond (same name (upper_b ∷ []) || same name (lower_b ∷ [])) (some (sequence_b 0))
    (map sequence_a (read_number name)))

-- "without `$` the part is a special id, which may be empty"
unfoldable pub named : ℕ → List ℕ → Option Piece
named start [] = some (special start [] 0)
named start (byte ∷ id) = cond (eqb byte dollar) (sequence_of id) (some (special start (byte ∷ id) 0))

-- "a number after a colon replaces the type"
abbrev pub typed : ℕ → Piece → Piece
typed type (sequence_a _) = sequence_a type
typed type (sequence_b _) = sequence_b type
typed type (special start id _) = special start id type

-- "21 unknown sequence name": all that a name can be refused for
abbrev pub by_name : Option Piece → PartReading
by_name nothing = unreadable UnknownSequenceName
by_name (some piece) = readable piece

-- "20 bad type number", and then the name
unfoldable pub piece_typed : Option ℕ → Option Piece → PartReading
piece_typed nothing piece = unreadable BadTypeNumber
piece_typed (some type) piece = by_name (map (typed type) piece)

-- "A part has at most one colon; after it a u32"; "Inside a part the order is colons, type number, sequence name": what a part
-- is, by what stands between its colons, which is one text at least
abbrev pub of_colons : ℕ → List (List ℕ) → PartReading
of_colons start [] = unreadable MoreThanOneColon
of_colons start (id ∷ []) = by_name (named start id)
of_colons start (id ∷ number ∷ []) = piece_typed (read_number number) (named start id)
of_colons start (id ∷ number ∷ more ∷ rest) = unreadable MoreThanOneColon

-- what a part is that starts at a place of the text
unfoldable pub read_part : ℕ → List ℕ → PartReading
read_part start part = of_colons start (split colon part)

-- "A piece is kind (0 A, 1 B, 2 special), type, id start and length in the text (0 for A, B)"
abbrev pub piece_numbers : Piece → List ℕ
piece_numbers (sequence_a type) = 0 ∷ type ∷ 0 ∷ 0 ∷ []
piece_numbers (sequence_b type) = 1 ∷ type ∷ 0 ∷ 0 ∷ []
piece_numbers (special start id type) = 2 ∷ type ∷ start ∷ length id ∷ []

-- the same as it is answered: the id by its place alone
abbrev pub piece_told : Piece → PieceRead
piece_told (sequence_a type) = record { name = A; type_id = type }
piece_told (sequence_b type) = record { name = B; type_id = type }
piece_told (special start id type) = record { name = Special start (length id); type_id = type }

unfoldable pub piece_answer : PartReading → Result PieceRead Why
piece_answer (unreadable why) = Err why
piece_answer (readable piece) = Ok (piece_told piece)
