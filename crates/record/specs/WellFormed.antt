-- What a well-formed record is, clause by clause as document 01 has it.
-- Assumes nothing: these are definitions.
use Rattle.std.specs.Prelude.{◌≡◌, ◌⊎◌, ℕ, suc, ◌+◌, ◌≤◌, max, List, length}
use Rattle.record.specs.Tree.{Row, Range, Forest, none, node, Encoding, sequences, absent}
use Rattle.lists.specs.Lists.{All}
use Rattle.record.specs.Flat.{flat_nodes, flat_rows}

-- "marks are 0 or 1 with zeros where absent; each range has start ≤ end ≤ row count"
abbrev pub RangeFine : ℕ → Range → Type 0
RangeFine n p = (p ≡ absent) ⊎ ((p.present ≡ 1) × (p.start ≤ p.end) × (p.end ≤ n))

-- "pool is 0 or 1"; "word mark (0 none, 1 present), word (0 if none)"
abbrev pub RowFine : Row → Type 0
RowFine r = (r.pool ≤ 1) × (((r.word_mark ≡ 0) × (r.word ≡ 0)) ⊎ (r.word_mark ≡ 1))

-- A node and its rows: a place for each sequence, ranges within the rows, marks.
pub record NodeFine (r : List Row) (q : List Range) : Type 0 where
  pub places : length q ≡ sequences
  pub ranges_fine : All (RangeFine (length r)) q
  pub rows_fine : All RowFine r

-- So is each node, at every level.
abbrev pub Fine : Forest → Type 0
Fine none = Unit {0}
Fine (node r q w x) = NodeFine r q × Fine w × Fine x

abbrev pub FineEncoding : Encoding → Type 0
FineEncoding E = NodeFine E.rows E.ranges × Fine E.below

-- "at most 4,096 nodes, 65,536 rows, 16 levels below the top"
abbrev pub most_nodes : ℕ
most_nodes = 4096

abbrev pub most_rows : ℕ
most_rows = 65536

abbrev pub most_levels : ℕ
most_levels = 16

abbrev pub nodes_in : Forest → ℕ
nodes_in none = 0
nodes_in (node r q w x) = suc (nodes_in w + nodes_in x)

abbrev pub rows_in : Forest → ℕ
rows_in none = 0
rows_in (node r q w x) = length r + (rows_in w + rows_in x)

-- The levels, the top one counted: one more than the levels below the top.
abbrev pub levels : Forest → ℕ
levels none = 0
levels (node r q w x) = max (suc (levels w)) (levels x)

-- Within the limits. Refusal 2 of an operation is that its result does not fit them, or its output.
pub record Fits (f : Forest) : Type 0 where
  pub few_nodes : nodes_in f ≤ most_nodes
  pub few_rows : rows_in f ≤ most_rows
  pub few_levels : levels f ≤ suc most_levels

pub record WellFormed (f : Forest) : Type 0 where
  pub fine : Fine f
  pub fits : Fits f

-- The two lists store the encodings f. "slice lengths are multiples of 26 and 11; window counts close exactly into whole
-- encodings; row counts add up to the rows present": that they are the flat form of some forest says just that.
pub record Stores (nodes rows : List ℕ) (f : Forest) : Type 0 where
  pub nodes_are : flat_nodes f ≡ nodes
  pub rows_are : flat_rows f ≡ rows
  pub well : WellFormed f

abbrev pub Batch : List ℕ → List ℕ → Type 0
Batch nodes rows = (f : Forest) × Stores nodes rows f
