-- Reading a template text (document 01, module 7, and "Reading a template"; document 02, request 02).
-- Assumes nothing: these are definitions.
use Rattle.std.specs.Prelude.{Bool, ◌&&◌, cond, ℕ, ◌+◌, ◌*◌, leb, length, replicate, Result, Ok, Err}
use mathlib.Core.List.{List, [], ◌∷◌, flat_map}
use Rattle.record.specs.Outcome.{over}
use Rattle.record.specs.Refusals.{number_of, fault_or}
use Rattle.record.specs.declared.Why.{Why}
use Rattle.record.specs.declared.Fault.{Fault}
use Rattle.record.specs.declared.Refusal.{Refusal}
use Rattle.record.specs.declared.Refusal.TheVariants.{PartUnreadable, TemplateTooLong}
use Rattle.template_parts.specs.Parts.{parts}
use Rattle.template_pieces.specs.Piece.{Piece, PartReading, unreadable, readable, read_part, piece_numbers}
use Rattle.template_text.specs.declared.Template.{Template}

-- "8 above 4,096 bytes or 64 parts"
abbrev pub most_bytes : ℕ
most_bytes = 4096

abbrev pub most_parts : ℕ
most_parts = 64

-- "A piece is kind, type, id start and length"
abbrev pub piece_width : ℕ
piece_width = 4

-- refused, or the pieces of the text
pub data TemplateReading : Type 0 where
  unread : Refusal → TemplateReading
  reads : List Piece → TemplateReading

-- "give, beside the refusal number, the part's number and its first byte's place in the text, both from 0"
abbrev pub fault_at : ℕ → ℕ → Why → Fault
fault_at part place why = record { why = why; part = part; place = place }

-- a part of a number, at a place, and those after it: the first that cannot be read decides
abbrev pub follows : ℕ → ℕ → PartReading → TemplateReading → TemplateReading
follows part place (unreadable why) rest = unread (PartUnreadable (fault_at part place why))
follows part place (readable piece) (unread k) = unread k
follows part place (readable piece) (reads pieces) = reads (piece ∷ pieces)

-- the parts from a number and a place on, one after another with a space between
unfoldable pub read_parts : ℕ → ℕ → List (List ℕ) → TemplateReading
read_parts part place [] = reads []
read_parts part place (text ∷ rest) = follows part place (read_part place text) (read_parts (part + 1) (place + length text + 1) rest)

abbrev pub short : List ℕ → Bool
short text = leb (length text) most_bytes && leb (length (parts text)) most_parts

-- "Reading a template: 8 above 4,096 bytes or 64 parts, then" 19 to 21, "in 7's position"
unfoldable pub read_template : List ℕ → TemplateReading
read_template text = cond (short text) (read_parts 0 0 (parts text)) (unread TemplateTooLong)

-- ---- The answer

abbrev pub template_answer : TemplateReading → Result ℕ Refusal
template_answer (unread k) = Err k
template_answer (reads pieces) = Ok (length pieces)

-- the numbers of the pieces; a refusal has none
abbrev pub numbers_of : TemplateReading → List ℕ
numbers_of (unread k) = []
numbers_of (reads pieces) = flat_map piece_numbers pieces

-- "64 come back by value, spare ones zero"
abbrev pub pieces_of : TemplateReading → List ℕ
pieces_of r = over (numbers_of r) (replicate (most_parts * piece_width) 0)

unfoldable pub template_of : TemplateReading → Result Template Refusal
template_of (unread k) = Err k
template_of (reads pieces) = Ok (record { count = length pieces; pieces = pieces_of (reads pieces) })

-- a reading in numbers: 0 and the numbers of the pieces; or the refusal's number, with the number and the place of the part at fault
-- if it tells one
abbrev pub reading_numbers : TemplateReading → List ℕ
reading_numbers (unread k) = number_of k ∷ fault_or [] k
reading_numbers (reads pieces) = 0 ∷ flat_map piece_numbers pieces
