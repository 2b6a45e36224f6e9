-- What the functions that write a padded node ask and give.
-- Assumes nothing: these are definitions.
use Rattle.std.specs.Prelude.{ℕ, ◌+◌, ◌≤◌, length, get_or, drop}
use mathlib.Core.List.{List, ◌∷◌, flat_map}
use Rattle.record.specs.Tree.{Range}
use Rattle.lists.specs.Lists.{All}
use Rattle.record.specs.Flat.{node_width, range_numbers, range_at}
use Rattle.record.specs.WellFormed.{most_rows}
use Rattle.record.specs.Passing.{ranges_at}
use Rattle.cut_plan.specs.declared.Direction.{Direction}
use Rattle.pad_nodes.specs.Shifted.{padded_ranges}

-- the numbers of the node at i, with so many rows now and so many of them new
abbrev pub padded_node : List ℕ → ℕ → ℕ → ℕ → Direction → List ℕ
padded_node nodes i count new d = count ∷ get_or nodes (i + 1) 0 ∷ flat_map range_numbers (padded_ranges d new (ranges_at nodes i))

-- a range that can be shifted within 32 bits
abbrev pub Shiftable : Range → Type 0
Shiftable p = (p.present ≤ 1) × (p.start ≤ most_rows) × (p.end ≤ most_rows)

-- A range stands at this place, it can be shifted, and there is room for it at the same place.
pub record AskShiftRange (nodes : List ℕ) (at shift : ℕ) (out : List ℕ) : Type 0 where
  pub stands : at + 3 ≤ length nodes
  pub fits : at + 3 ≤ length out
  pub few : shift ≤ most_rows
  pub small : Shiftable (range_at (drop at nodes))

-- A node stands at i, its ranges can be shifted, and there is room for it at the same place.
pub record AskShiftNode (nodes : List ℕ) (i shift : ℕ) (out : List ℕ) : Type 0 where
  pub stands : i + node_width ≤ length nodes
  pub fits : i + node_width ≤ length out
  pub few : shift ≤ most_rows
  pub small : All Shiftable (ranges_at nodes i)
