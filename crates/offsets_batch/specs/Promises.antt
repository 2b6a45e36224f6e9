-- What writing a converted batch asks and gives.
-- Assumes nothing: these are definitions.
use Rattle.std.specs.Prelude.{◌≡◌, true, ℕ, ◌*◌, ◌/◌, ◌≤◌, length, drop, None}
use mathlib.Core.List.{List, ◌++◌, map, flat_map}
use Rattle.record.specs.Tree.{Row}
use Rattle.record.specs.Flat.{row_width, row_numbers, row_at}
use Rattle.record.specs.Read.{several}
use Rattle.chars_text.specs.Characters.{characters, well_formed, starts}
use Rattle.chars_places.specs.Lengths.{text_largest}
use Rattle.offsets_trees.specs.declared.Way.{Way}
use Rattle.offsets_trees.specs.Offsets.{with_offsets, convert_by, fault_by, rows_fault}

-- the numbers of so many rows converted, and what follows them
abbrev pub turned_numbers : Way → List ℕ → List ℕ → ℕ → List ℕ
turned_numbers way text rows count = flat_map row_numbers (map (with_offsets (convert_by way text)) (several row_at row_width count rows)) ++ drop (count * row_width) rows

-- the numbers of all rows converted
abbrev pub converted_numbers : Way → List ℕ → List ℕ → List ℕ
converted_numbers way text rows = flat_map row_numbers (map (with_offsets (convert_by way text)) (several row_at row_width (length rows / row_width) rows))

-- The text is well-formed and not too long and has so many characters, and nothing is wrong with so many rows.
pub record Copied (way : Way) (text : List ℕ) (total : ℕ) (rows : List ℕ) (count : ℕ) : Type 0 where
  pub well : well_formed text ≡ true
  pub short : length text ≤ text_largest
  pub all : total ≡ starts text
  pub inside : count * row_width ≤ length rows
  pub fine : rows_fault (fault_by way text) (several row_at row_width count rows) ≡ None

-- The rows are whole rows with which nothing is wrong, the text has so many characters, and the output has room.
pub record Convertible (way : Way) (nodes rows text : List ℕ) (total : ℕ) (out_nodes out_rows : List ℕ) : Type 0 where
  pub list : List Row
  pub are : rows ≡ flat_map row_numbers list
  pub fine : rows_fault (fault_by way text) list ≡ None
  pub well : well_formed text ≡ true
  pub short : length text ≤ text_largest
  pub all : total ≡ length (characters text)
  pub nodes_fit : length nodes ≤ length out_nodes
  pub rows_fit : length rows ≤ length out_rows
