-- The parts of a template text (document 01, module 7), and the place that goes from part to part.
-- Assumes nothing: these are definitions.
use Rattle.std.specs.Prelude.{cond, ℕ, suc, ◌+◌, List, [], ◌∷◌, eqb, leb, length, drop, Option, Some, None}
use Rattle.template_parts.specs.Split.{split}
use Rattle.template_parts.specs.declared.Part.{Part}
use Rattle.template_parts.specs.declared.PartStep.{PartStep}

-- the byte of a space
abbrev pub space : ℕ
space = 32

-- "Split at each single space, so two spaces hold an empty part between them."
abbrev pub parts : List ℕ → List (List ℕ)
parts text = split space text

-- the parts that are left from a place on: none past the end of the text
unfoldable pub parts_from : List ℕ → ℕ → List (List ℕ)
parts_from text at = cond (leb at (length text)) (parts (drop at text)) []

-- the part at a place, by its start and length
abbrev pub first_of : ℕ → List (List ℕ) → Option Part
first_of at [] = None
first_of at (part ∷ parts) = Some (record { start = at; length = length part })

-- "moved on by each part read": the place after a part and its space; the same place where there is no part
abbrev pub place_after : ℕ → List (List ℕ) → ℕ
place_after at [] = at
place_after at (part ∷ parts) = at + length part + 1

-- what reading at a place finds, and the place after it
abbrev pub part_step_at : List ℕ → ℕ → PartStep
part_step_at text at = record { answer = first_of at (parts_from text at); next = place_after at (parts_from text at) }

-- ---- Looking for a byte

-- the number of bytes before the first of this kind, or of all
unfoldable pub length_to : ℕ → List ℕ → ℕ
length_to byte [] = 0
length_to byte (b ∷ text) = cond (eqb b byte) 0 (suc (length_to byte text))
