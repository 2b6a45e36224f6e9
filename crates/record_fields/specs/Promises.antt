-- What the numbers of a node and of a row must be, apart from the tree, by their places in the slices.
-- Assumes nothing: these are definitions.
use Rattle.std.specs.Prelude.{◌≡◌, ℕ, ◌+◌, ◌-◌, ◌*◌, ◌%◌, ◌<◌, ◌≤◌, ◌⊎◌, List, length, slice_index, slice_index_or}
use Rattle.record.specs.Tree.{sequences}
use Rattle.record.specs.Flat.{row_width, node_width}

-- absent, with zeros; or present, within n rows
abbrev pub RangeOk : ℕ → ℕ → ℕ → ℕ → Type 0
RangeOk n m s e = ((m ≡ 0) × (s ≡ 0) × (e ≡ 0)) ⊎ ((m ≡ 1) × (s ≤ e) × (e ≤ n))

-- the ranges of the node at i
abbrev pub RangesOk : List ℕ → ℕ → Type 0
RangesOk xs i = (k : ℕ) → k < sequences → RangeOk (slice_index xs i) (slice_index xs (i + 2 + k * 3)) (slice_index xs (i + 2 + k * 3 + 1)) (slice_index xs (i + 2 + k * 3 + 2))

-- a whole node stands at i, its ranges are fine, and its rows take no more than `room` numbers
pub record NodeFits (nodes : List ℕ) (i room : ℕ) : Type 0 where
  pub whole : node_width ≤ length nodes - i
  pub rows : slice_index_or nodes i 0 * row_width ≤ room
  pub fine : RangesOk nodes i

abbrev pub NodesFine : List ℕ → Type 0
NodesFine xs = (i : ℕ) → i * node_width + node_width ≤ length xs → RangesOk xs (i * node_width)

-- the pool is 0 or 1, and so is the word mark, with word 0 where it is 0
abbrev pub RowOk : ℕ → ℕ → ℕ → Type 0
RowOk pool mark word = (pool ≤ 1) × (((mark ≡ 0) × (word ≡ 0)) ⊎ (mark ≡ 1))

-- how many numbers a number of the record can be
abbrev pub u32_count : ℕ
u32_count = 4294967296

-- the mark at `at` with the word after it above
abbrev pub marked_word : List ℕ → ℕ → ℕ
marked_word rows at = slice_index rows at + slice_index rows (at + 1) * u32_count

-- r is at most 1 exactly if x is odd or 0
pub record LowestBit (x r : ℕ) : Type 0 where
  pub none : x ≡ 0 → r ≤ 1
  pub odd : x % 2 ≡ 1 → r ≤ 1
  pub even : x % 2 ≡ 0 → r ≤ 1 → x ≡ 0

abbrev pub RowAt : List ℕ → ℕ → Type 0
RowAt rs j = RowOk (slice_index rs (j + 2)) (slice_index rs (j + 5)) (slice_index rs (j + 6))

abbrev pub RowsFine : List ℕ → Type 0
RowsFine rs = (i : ℕ) → i * row_width + row_width ≤ length rs → RowAt rs (i * row_width)
