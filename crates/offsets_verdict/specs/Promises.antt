-- What the check of the rows gives.
-- Assumes nothing: these are definitions.
use Rattle.std.specs.Prelude.{cond, ℕ, ◌/◌, List, eqb, length, Result}
use Rattle.record.specs.Flat.{row_width, row_at}
use Rattle.record.specs.Read.{several}
use Rattle.record.specs.declared.Refusal.{Refusal}
use Rattle.chars_text.specs.Characters.{characters}
use Rattle.offsets_trees.specs.declared.Way.{Way}
use Rattle.offsets_trees.specs.declared.Way.TheVariants.{ToBytes}
use Rattle.offsets_trees.specs.Offsets.{fault_by, rows_fault}
use Rattle.offsets_verdict.specs.Verdicts.{of_fault}

-- the way whose offsets are looked at, in a text of so many bytes and characters
abbrev pub looked_at : Way → ℕ → ℕ → Way
looked_at way bytes total = cond (eqb total bytes) ToBytes way

-- by all the rows that the numbers are
abbrev pub rows_verdict : Way → List ℕ → List ℕ → Result ℕ Refusal
rows_verdict way rows text = of_fault (rows_fault (fault_by way text) (several row_at row_width (length rows / row_width) rows)) (length (characters text))
