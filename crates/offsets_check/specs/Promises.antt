-- What the check of offsets asks and gives.
-- Assumes nothing: these are definitions.
use Rattle.std.specs.Prelude.{◌≡◌, true, cond, ℕ, List, leb, length, Option, None, Some}
use Rattle.chars_text.specs.Characters.{characters, well_formed}
use Rattle.offsets_trees.specs.declared.Fault.{Fault}
use Rattle.offsets_trees.specs.declared.Fault.TheVariants.{PastEnd}

-- The text is well-formed and has so many characters.
pub record CountedText (text : List ℕ) (total : ℕ) : Type 0 where
  pub well : well_formed text ≡ true
  pub all : total ≡ length (characters text)

-- the number of a character among so many, that of the end included
abbrev pub number_fault : ℕ → ℕ → Option Fault
number_fault total offset = cond (leb offset total) None (Some PastEnd)
