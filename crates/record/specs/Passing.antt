-- Passing over a batch node by node, in the order in which the nodes stand: what is still to come at a place.
-- A node's windows come first, and then what follows the node.
-- Assumes nothing: these are definitions.
use Rattle.std.specs.Prelude.{◌≡◌, ℕ, ◌+◌, ◌≤◌, List, length, drop}
use Rattle.record.specs.Tree.{Range, Forest, none, node, sequences}
use Rattle.record.specs.Flat.{range_at, flat_nodes, flat_rows}
use Rattle.record.specs.WellFormed.{Fine, WellFormed}
use Rattle.record.specs.Read.{several}

-- one batch after another
abbrev pub followed : Forest → Forest → Forest
followed none y = y
followed (node r q w x) y = node r q w (followed x y)

-- the ranges of the node at i
abbrev pub ranges_at : List ℕ → ℕ → List Range
ranges_at nodes i = several range_at 3 sequences (drop (i + 2) nodes)

-- The nodes are those of the encodings f.
pub record NodesOf (nodes : List ℕ) (f : Forest) : Type 0 where
  pub nodes_are : flat_nodes f ≡ nodes
  pub well : WellFormed f

-- The nodes from place i on are those of f, to the end.
pub record NodesToCome (nodes : List ℕ) (i : ℕ) (f : Forest) : Type 0 where
  pub is : drop i nodes ≡ flat_nodes f
  pub on : i ≤ length nodes
  pub fine : Fine f

-- The rows from place j on are those of f, to the end.
pub record RowsToCome (rows : List ℕ) (j : ℕ) (f : Forest) : Type 0 where
  pub is : drop j rows ≡ flat_rows f
  pub on : j ≤ length rows
