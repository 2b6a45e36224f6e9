-- What the functions ask and give that measure a batch.
-- Assumes nothing: these are definitions.
use Rattle.std.specs.Prelude.{◌≡◌, ℕ, ◌+◌, ◌≤◌, max, List}
use Rattle.lists.specs.Stretch.{Stretch}
use Rattle.record.specs.Tree.{Forest, tops}
use Rattle.record.specs.Flat.{flat_nodes}
use Rattle.record.specs.WellFormed.{Fine, nodes_in, rows_in, most_nodes, most_rows}
use Rattle.record_extent.specs.declared.Extent.{Extent}
use Rattle.record_extent.specs.Size.{extent}

-- The nodes from place i on begin with those of f: k encodings, of any number of levels, and not more of nodes and rows than a
-- batch may have. (`Here` of record asks for their rows too, and for few levels: neither is looked at where a batch is measured.)
pub record Stands (nodes : List ℕ) (i k : ℕ) (f : Forest) : Type 0 where
  pub there : Stretch nodes i (flat_nodes f)
  pub counts : tops f ≡ k
  pub fine : Fine f
  pub few_nodes : nodes_in f ≤ most_nodes
  pub few_rows : rows_in f ≤ most_rows

-- what is measured so far, and after it an encoding of n rows with windows that measure `below`
abbrev pub with_node : Extent → ℕ → Extent → Extent
with_node s n below = extent (s.nodes + (below.nodes + 1)) (s.rows + (n + below.rows)) (max s.levels (below.levels + 1))

-- all of it within the limits
pub record Few (s : Extent) (n : ℕ) (below : Extent) : Type 0 where
  pub few_nodes : s.nodes + (below.nodes + 1) ≤ most_nodes
  pub few_rows : s.rows + (n + below.rows) ≤ most_rows
  pub few_levels : below.levels ≤ most_nodes
