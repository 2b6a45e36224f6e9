-- Where the walks look for offsets: rows and nodes that stand at a place.
-- Assumes nothing: these are definitions.
use Rattle.std.specs.Prelude.{◌≡◌, ℕ, ◌+◌, ◌*◌, ◌≤◌, List, length, get_or}
use Rattle.record.specs.Tree.{Row, Forest}
use Rattle.record.specs.Flat.{row_width}
use Rattle.record.specs.WellFormed.{Fine, nodes_in}
use Rattle.record.specs.Standing.{At, RowsAt}

-- `count` rows R stand at place j.
pub record RowsFrom (rows : List ℕ) (j count : ℕ) (R : List Row) : Type 0 where
  pub there : RowsAt rows j R
  pub counts : length R ≡ count

-- No number of one column of four rows passes r; the first row's stands at `at`.
pub record BoundsFour (rows : List ℕ) (at r : ℕ) : Type 0 where
  pub first : get_or rows at 0 ≤ r
  pub second : get_or rows (at + row_width) 0 ≤ r
  pub third : get_or rows (at + 2 * row_width) 0 ≤ r
  pub fourth : get_or rows (at + 3 * row_width) 0 ≤ r

-- Encodings f of `count` nodes, windows included, stand at places i and j.
pub record NodesFrom (nodes rows : List ℕ) (i j count : ℕ) (f : Forest) : Type 0 where
  pub at : At nodes rows i j f
  pub on : j ≤ length rows
  pub fine : Fine f
  pub counts : nodes_in f ≡ count
