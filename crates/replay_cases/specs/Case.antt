-- What a stored case is: "decimal u32 numbers separated by single spaces", "each list as its length then its numbers".
-- Assumes nothing: these are definitions.
use Rattle.std.specs.Prelude.{ℕ, zero, suc, ◌+◌, ◌-◌, Bool, true, false, List, [], ◌∷◌, length, get_or, take, leb, ltb, eqb, Option, Some, None}
use Rattle.lines.specs.Decimal.{number_at}
use Rattle.lines.specs.declared.Number.{Number}
use Rattle.replay_cases.specs.declared.Part.{Part}

-- what stands between two numbers of a line: the byte of a space
abbrev pub separator : ℕ
separator = 32

-- what a line holds: numbers, unless it cannot be read
pub data Case : Type 0 where
  unreadable : Case
  numbers : List ℕ → Case

abbrev pub pick_case : Bool → Case → Case → Case
pick_case true a b = a
pick_case false a b = b

-- a number, and then those of a case
abbrev pub led_case : ℕ → Case → Case
led_case n unreadable = unreadable
led_case n (numbers ns) = numbers (n ∷ ns)

-- what follows a number: nothing at the line's end, or a space and the case after it
abbrev pub rest : List ℕ → ℕ → (ℕ → Case) → Case
rest line next case =
    pick_case (leb (length line) next) (numbers [])
    (pick_case (eqb (get_or line next 0) separator) (case (next + 1)) unreadable)

abbrev pub from : List ℕ → Option Number → (ℕ → Case) → Case
from line None case = unreadable
from line (Some n) case = led_case n.value (rest line n.next case)

-- the case that starts at a place, of at most so many numbers
unfoldable pub case_from : ℕ → List ℕ → ℕ → Case
case_from zero line at = unreadable
case_from (suc most) line at = from line (number_at line at) (case_from most line)

-- the case that a line is: it cannot have more numbers than bytes
abbrev pub case_of : List ℕ → Case
case_of line = case_from (length line + 1) line 0

-- the case, if there is room for its numbers
abbrev pub fitted : ℕ → Case → Case
fitted room unreadable = unreadable
fitted room (numbers ns) = pick_case (leb (length ns) room) (numbers ns) unreadable

-- the case that an answer and the numbers beside it stand for
abbrev pub answered_case : Option ℕ → List ℕ → Case
answered_case None stored = unreadable
answered_case (Some count) stored = numbers (take count stored)

abbrev pub pick_part : Bool → Part → Part → Part
pick_part true a b = a
pick_part false a b = b

-- no list, at the end of a case of so many numbers
abbrev pub no_list : ℕ → Part
no_list total = record { fits = false; start = total; end = total }

-- the list whose length stands at a place, if it lies within the case
abbrev pub part_at : List ℕ → ℕ → Part
part_at case at =
    pick_part (ltb at (length case))
    (pick_part (leb (get_or case at 0) (length case - (at + 1)))
    (record { fits = true; start = at + 1; end = at + 1 + get_or case at 0 })
    (no_list (length case)))
    (no_list (length case))

-- the list whose length stands at a place, if nothing follows it in the case
abbrev pub last_at : List ℕ → ℕ → Part
last_at case at =
    pick_part (ltb (part_at case at).end (length case))
    (no_list (length case))
    (part_at case at)
