-- What a line asks (document 01, "The window lister").
-- Assumes nothing: these are definitions.
use Rattle.std.specs.Prelude.{ℕ, ◌+◌, ◌&&◌, cond, List, [], ◌∷◌, leb, ltb, eqb, length, get_or, drop, Option, Some, None}
use Rattle.record.specs.WellFormed.{most_rows}
use Rattle.cut_plan.specs.declared.Direction.{Direction}
use Rattle.cut_plan.specs.declared.Direction.TheVariants.{Left, Right}
use Rattle.lines.specs.Decimal.{number_at}
use Rattle.lines.specs.declared.Number.{Number}
use Rattle.listing_request.specs.declared.Request.{Request}

-- the bytes of the space and of the letters L and R
abbrev pub space_byte : ℕ
space_byte = 32

abbrev pub letter_l : ℕ
letter_l = 76

abbrev pub letter_r : ℕ
letter_r = 82

-- "three decimal numbers .., single spaces": a number, and the place after the space behind it
abbrev pub spaced : List ℕ → Option Number → Option Number
spaced line None = None
spaced line (Some n) = cond (ltb n.next (length line) && eqb (get_or line n.next 0) space_byte) (Some (record { value = n.value; next = n.next + 1 })) None

-- the field that begins at a place
abbrev pub field_at : List ℕ → ℕ → Option Number
field_at line at = spaced line (number_at line at)

-- what k says of a number that was read and the place after it; a line without one is bad
abbrev pub with_number : Option Number → (ℕ → ℕ → Option Request) → Option Request
with_number None k = None
with_number (Some n) k = k n.value n.next

-- "`rows max stride L` or `.. R`": what is left of the line is one letter
abbrev pub with_letter : List ℕ → (Direction → Option Request) → Option Request
with_letter [] k = None
with_letter (byte ∷ []) k = cond (eqb byte letter_l) (k Left) (cond (eqb byte letter_r) (k Right) None)
with_letter (byte ∷ other ∷ bytes) k = None

abbrev pub request : ℕ → ℕ → ℕ → Direction → Request
request rows max stride d = record { rows = rows; max = max; stride = stride; direction = d }

-- "rows at most 65,536": the record's limit
abbrev pub cut_within : ℕ → ℕ → ℕ → Direction → Option Request
cut_within rows max stride d = cond (leb rows most_rows) (Some (request rows max stride d)) None

-- "three decimal numbers of 1 to 10 digits up to 4,294,967,295, rows at most 65,536, single spaces .. `bad line` for any
-- other line"
unfoldable pub asked_of : List ℕ → Option Request
asked_of line =
    with_number (field_at line 0) λ rows second.
    with_number (field_at line second) λ max third.
    with_number (field_at line third) λ stride last.
    with_letter (drop last line) λ d.
    cut_within rows max stride d
