-- What the functions that write windows ask and give.
-- Assumes nothing: these are definitions.
use Rattle.std.specs.Prelude.{◌≡◌, ℕ, ◌+◌, ◌*◌, ◌-◌, ◌≤◌, List, ◌∷◌, length, replicate}
use Rattle.record.specs.Tree.{Row, Encoding, sequences}
use Rattle.record.specs.Flat.{row_width, node_width}
use Rattle.record.specs.Standing.{RowsAt, Put}
use Rattle.cut_plan.specs.Cut.{Cuts, windows_of, rows_of}
use Rattle.cut_plan.specs.declared.Direction.{Direction}
use Rattle.record.specs.declared.Bounds.{Bounds}

-- the numbers of a node without ranges: its row count and its window count
abbrev pub head : ℕ → ℕ → List ℕ
head n k = n ∷ k ∷ replicate (3 * sequences) 0

-- the stretch lies in the rows from j on, and from a and b on there is room for it
pub record AskPart (rows : List ℕ) (j : ℕ) (s : Bounds) (nodes' : List ℕ) (a : ℕ) (rows' : List ℕ) (b : ℕ) : Type 0 where
  pub forward : s.start ≤ s.end
  pub inside : j + s.end * row_width ≤ length rows
  pub nodes_fit : a + node_width ≤ length nodes'
  pub rows_fit : b + (s.end - s.start) * row_width ≤ length rows'

-- n rows stand at j, they are to be cut, and from a and b on there is room for the windows
pub record AskWindows (rows : List ℕ) (j n max stride : ℕ) (d : Direction) (nodes' : List ℕ) (a : ℕ) (rows' : List ℕ) (b : ℕ) : Type 0 where
  pub R : List Row
  pub there : RowsAt rows j R
  pub size : length R ≡ n
  pub cut : Cuts n max stride
  pub nodes_fit : a + length (windows_of n max stride d) * node_width ≤ length nodes'
  pub rows_fit : b + rows_of (windows_of n max stride d) * row_width ≤ length rows'

-- whatever n rows stand there, the encodings that `make` makes of them were written from a and b on
abbrev pub MakesOfRows : (List Row → List Encoding) → List ℕ → ℕ → ℕ → List ℕ → ℕ → List ℕ → ℕ → List ℕ → List ℕ → Type 0
MakesOfRows make rows j n nodes₀ a rows₀ b nodes₁ rows₁ = (R : List Row) → RowsAt rows j R → length R ≡ n → Put (make R) nodes₀ a rows₀ b nodes₁ rows₁
