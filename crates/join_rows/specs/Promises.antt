-- What the functions ask and give that write the rows of a joined node.
-- Assumes nothing: these are definitions.
use Rattle.std.specs.Prelude.{◌≡◌, Bool, ℕ, ◌+◌, ◌*◌, ◌≤◌, length}
use mathlib.Core.List.{List, flat_map, map}
use Rattle.std.proofs.lemmas.List.Edits.{sets}
use Rattle.record.specs.Tree.{Row}
use Rattle.record.specs.Flat.{row_width, row_numbers}
use Rattle.record.specs.Standing.{RowsAt}
use Rattle.join_trees.specs.Join.{moved, base, join_rows}
use Rattle.join_trees.specs.Offsets.{MovedWithin}
use Rattle.join_view.specs.declared.View.{View}
use Rattle.join_view.specs.View.{rows_seen}

-- There are `count` rows at j, whose offsets stay within 32 bits when moved on by n.
pub record AskMoved (rows : List ℕ) (j count n : ℕ) : Type 0 where
  pub R : List Row
  pub there : RowsAt rows j R
  pub size : length R ≡ count
  pub within : MovedWithin n R
  pub inside : j + count * row_width ≤ length rows

-- Whatever `count` rows R stand at j, the rows `make R` were written from `at` on, and nothing else.
pub record MakesRows (make : List Row → List Row) (rows : List ℕ) (j count : ℕ) (out : List ℕ) (at : ℕ) (out' : List ℕ) : Type 0 where
  pub made : (R : List Row) → RowsAt rows j R → length R ≡ count → out' ≡ sets out at (flat_map row_numbers (make R))

-- the rows of P as they follow those of S: seen, and moved on
abbrev pub moved_rows : View → ℕ → List Row → List Row
moved_rows v n R = map (moved n) (rows_seen v R)

-- The rows of S and of P stand there, P's stay within 32 bits, and there is room for both.
pub record AskOwn (rows : List ℕ) (j count : ℕ) (rows' : List ℕ) (j' count' : ℕ) (g : Bool) (out : List ℕ) (at : ℕ) : Type 0 where
  pub R : List Row
  pub R' : List Row
  pub there : RowsAt rows j R
  pub size : length R ≡ count
  pub inside : j + count * row_width ≤ length rows
  pub there' : RowsAt rows' j' R'
  pub size' : length R' ≡ count'
  pub inside' : j' + count' * row_width ≤ length rows'
  pub within : MovedWithin (base g R) R'
  pub fits : at + (count + count') * row_width ≤ length out

-- Whatever rows stand there, those of their join were written from `at` on.
pub record WritesOwn (rows : List ℕ) (j count : ℕ) (rows' : List ℕ) (j' count' : ℕ) (v : View) (g : Bool) (out : List ℕ) (at : ℕ) (out₁ : List ℕ) : Type 0 where
  pub own : (R R' : List Row) → RowsAt rows j R → length R ≡ count → RowsAt rows' j' R' → length R' ≡ count' → out₁ ≡ sets out at (flat_map row_numbers (join_rows g R (rows_seen v R')))
