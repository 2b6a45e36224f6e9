-- Encodings where they stand, as the walks ask for them: all their nodes, and all their rows.
-- Assumes nothing.
use mathlib.Core.Path.{◌≡◌, refl, sym, ap, ◌∙◌}
use Prim.Native.Nat.{ℕ, ◌/◌, max}
use native.Mathlib.Omega.{arith}
use mathlib.Core.List.{List, [], ◌∷◌, ◌++◌}
use lib.ListN.{length}
use Rattle.record.specs.Tree.{Row, Forest, none, node, Encoding, forest}
use Rattle.record.specs.Flat.{row_width, node_width}
use Rattle.record.specs.WellFormed.{Stores, nodes_in, rows_in}
use Rattle.record.specs.Walk.{all_rows}
use Rattle.record.specs.Standing.{Here}
use Rattle.record.proofs.Flat.{length_nodes, length_rows}
use Rattle.record.proofs.Standing.{at_top}
use Rattle.record.proofs.Walk.{flat_rows_lem, length_all_rows}
use Rattle.record_extent.specs.Promises.{Stands}
use Rattle.join_reach.specs.Reach.{largest_offset, largest}
use Rattle.join_reach.specs.Promises.{RowsFrom, NodesFrom}

-- ---- The largest offset of all rows

offset_append : (s t : List Row) → largest_offset (s ++ t) ≡ max (largest_offset s) (largest_offset t)
unfolding largest_offset
offset_append [] t = omega arith
offset_append (r ∷ s) t = omega (arith, offset_append s t)

pub offset_all : (f : Forest) → largest_offset (all_rows f) ≡ largest largest_offset f
unfolding largest largest_offset all_rows
offset_all none = refl
offset_all (node r q w x) = omega (arith, offset_append r (all_rows w ++ all_rows x), offset_append (all_rows w) (all_rows x), offset_all w, offset_all x)

-- ---- Where they stand

pub stores_here : {nodes rows : List ℕ} {f : Forest} → Stores nodes rows f → Here nodes rows 0 0 f
stores_here {nodes} {rows} {f} s = record { at = at_top nodes rows f s; on = omega arith; well = s.well }

module _ {nodes rows : List ℕ} {i j : ℕ} {f : Forest} (h : Here nodes rows i j f) where
  pub nodes_from : {count : ℕ} → count ≡ nodes_in f → NodesFrom nodes rows i j count f
  nodes_from e = record { at = h.at; on = h.on; fine = h.well.fine; counts = sym e }

  pub rows_from_lem : {count : ℕ} → count ≡ rows_in f → RowsFrom rows j count (all_rows f)
  rows_from_lem e = record { there = record { rest = h.at.rest_rows; is = h.at.is_rows ∙ ap (◌++ h.at.rest_rows) (flat_rows_lem f) }; counts = length_all_rows f ∙ sym e }

pub here_stands : {nodes rows : List ℕ} {i j : ℕ} {E : Encoding} → Here nodes rows i j (forest (E ∷ [])) → Stands nodes i 1 (forest (E ∷ []))
here_stands h = record { there = record { rest = h.at.rest; is = h.at.is }; counts = omega arith; fine = h.well.fine; few_nodes = h.well.fits.few_nodes; few_rows = h.well.fits.few_rows }

-- ---- A whole batch

module _ {nodes rows : List ℕ} {f : Forest} (s : Stores nodes rows f) where
  pub nodes_counted : length nodes / node_width ≡ nodes_in f
  nodes_counted = omega (arith, ap length s.nodes_are, length_nodes f s.well.fine)

  pub rows_counted : length rows / row_width ≡ rows_in f
  rows_counted = omega (arith, ap length s.rows_are, length_rows f)
