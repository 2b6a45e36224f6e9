-- What copying rows with their offsets moved on asks and gives, and the block of numbers that moves them.
-- Assumes nothing: these are definitions.
use Rattle.std.specs.Prelude.{◌≡◌, ℕ, ◌+◌, ◌*◌, ◌≤◌, length, replicate}
use mathlib.Core.List.{List, flat_map, map}
use Rattle.std.proofs.lemmas.List.Edits.{sets}
use Rattle.record.specs.Tree.{Row}
use Rattle.record.specs.Flat.{row_width, row_numbers}
use Rattle.record.specs.Standing.{RowsAt}
use Rattle.join_trees.specs.Join.{moved}
use Rattle.join_trees.specs.Offsets.{MovedWithin}

-- There are `count` rows at j, whose offsets stay within 32 bits when moved on by n, and room for them.
pub record AskShift (rows : List ℕ) (j count n : ℕ) (out : List ℕ) (at : ℕ) : Type 0 where
  pub R : List Row
  pub there : RowsAt rows j R
  pub size : length R ≡ count
  pub within : MovedWithin n R
  pub inside : j + count * row_width ≤ length rows
  pub fits : at + count * row_width ≤ length out

-- Whatever `count` rows R stand at j, they were written from `at` on, moved on by n, and nothing else was.
pub record Shifts (rows : List ℕ) (j count n : ℕ) (out : List ℕ) (at : ℕ) (out' : List ℕ) : Type 0 where
  pub made : (R : List Row) → RowsAt rows j R → length R ≡ count → out' ≡ sets out at (flat_map row_numbers (map (moved n) R))

-- the row of zeros but for its offsets, which are n: added to the numbers of a row it moves the offsets on by n
abbrev pub shift : ℕ → Row
shift n = record { id = 0; type_id = 0; pool = 0; text_start = 0; text_length = 0; word_mark = 0; word = 0; offset_start = n; offset_end = n; special = 0; attention = 0 }

-- the numbers of t such rows
abbrev pub shifts : ℕ → ℕ → List ℕ
shifts n t = flat_map row_numbers (replicate t (shift n))
