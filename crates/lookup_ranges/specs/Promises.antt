-- What the functions of the top node ask and give: what holds of the one encoding, and what the pass that writes the
-- sequence column does for one sequence, and for all.
-- Assumes nothing: these are definitions.
use Rattle.std.specs.Prelude.{ℕ, ◌*◌, ◌≤◌, List, ◌++◌, ◌≡◌, cond, length}
use Rattle.record.specs.Tree.{Encoding}
use Rattle.record.specs.Standing.{One}
use Rattle.std.proofs.Math.Option.{Option, some}
use Rattle.lookup_ranges.specs.Ranges.{row_inside, column}
use Rattle.record.specs.declared.Bounds.{Bounds}

-- M holds of the one encoding that the nodes, with whichever rows, store
abbrev pub OfTop : List ℕ → (Encoding → Type 0) → Type 0
OfTop nodes M = (rows : List ℕ) (E : Encoding) → One nodes rows E → M E

-- ---- The sequence column

-- "later ids overwriting": the rows within b are in sequence id, the others where f has them
abbrev pub marked : Bounds → ℕ → (ℕ → Option ℕ) → ℕ → Option ℕ
marked b id f row = cond (row_inside b row) (some id) (f row)

-- a list that began with the column of f now begins with that of `marked`, and is otherwise as it was
abbrev pub Marks : Bounds → ℕ → List ℕ → List ℕ → Type 0
Marks b id was after = (f : ℕ → Option ℕ) (n : ℕ) (rest : List ℕ) → b.end ≤ n → was ≡ column f 0 n ++ rest → after ≡ column (marked b id f) 0 n ++ rest

-- the nodes store one encoding, and its column fits in the output
pub record ColumnFits (nodes out : List ℕ) : Type 0 where
  pub rows : List ℕ
  pub tree : Encoding
  pub is : One nodes rows tree
  pub fits : 2 * length tree.rows ≤ length out
