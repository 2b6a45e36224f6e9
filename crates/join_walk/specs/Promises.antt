-- Where an encoding's first window stands, and where what follows an encoding does.
-- Assumes nothing: these are definitions.
use Rattle.std.specs.Prelude.{◌≡◌, List, [], ◌∷◌, ℕ, ◌+◌, ◌*◌, ◌≤◌, length, get_or}
use Rattle.record.specs.Tree.{Encoding, forest}
use Rattle.record.specs.Flat.{row_width, node_width}
use Rattle.record.specs.WellFormed.{nodes_in, rows_in}
use Rattle.record_extent.specs.Promises.{Stands}
use Rattle.record.specs.declared.Spot.{Spot}
use Rattle.record.specs.Standing.{spot}

-- the last place that a number of 64 bits names
abbrev pub most_place : ℕ
most_place = 18446744073709551615

-- A node stands at s, and its rows after it.
pub record AskDown (nodes : List ℕ) (s : Spot) : Type 0 where
  pub nodes_fit : s.node + node_width ≤ length nodes
  pub rows_fit : s.row + get_or nodes s.node 0 * row_width ≤ most_place

abbrev pub first_window : List ℕ → Spot → Spot
first_window nodes s = spot (s.node + node_width) (s.row + get_or nodes s.node 0 * row_width)

-- An encoding stands at s.
pub record AskWalk (nodes : List ℕ) (s : Spot) : Type 0 where
  pub E : Encoding
  pub stands : Stands nodes s.node 1 (forest (E ∷ []))
  pub nodes_fit : s.node + nodes_in (forest (E ∷ [])) * node_width ≤ length nodes
  pub rows_fit : s.row + rows_in (forest (E ∷ [])) * row_width ≤ most_place

-- Whatever encoding stands there, r is the place after it.
abbrev pub Follows : List ℕ → Spot → Spot → Type 0
Follows nodes s r = (E : Encoding) → Stands nodes s.node 1 (forest (E ∷ [])) → r ≡ spot (s.node + nodes_in (forest (E ∷ [])) * node_width) (s.row + rows_in (forest (E ∷ [])) * row_width)
