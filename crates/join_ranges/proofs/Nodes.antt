-- A node that stands at a place: its counts, its ranges and its rows.
-- Assumes nothing.
use mathlib.Core.Path.{◌≡◌, sym, ap, ◌∙◌}
use mathlib.Core.List.{List, [], ◌∷◌, ◌++◌, flat_map, append_assoc}
use Prim.Native.Nat.{ℕ, ◌+◌, ◌*◌, ◌≤◌}
use native.Mathlib.Omega.{arith}
use lib.ListN.{length, get_or, drop}
use lib.Seq.{drop-drop}
use Rattle.record.specs.Tree.{Encoding, forest, windows}
use Rattle.record.specs.Flat.{row_width, range_numbers, flat_nodes}
use Rattle.record.specs.Standing.{Here}
use Rattle.record.proofs.Counts.{tops_few}
use Rattle.record.proofs.Here.{here_nodes_fit, here_rows_fit}
use Rattle.join_ranges.specs.Promises.{RangesAt, NodeAt}
use Rattle.lists.proofs.Written.{stands_number, stands_first}

module _ {nodes : List ℕ} {i : ℕ} {E : Encoding} (h : NodeAt nodes i E) where
  pub node_count_lem : get_or nodes i 0 ≡ length E.rows
  node_count_lem = stands_first h.there

  pub node_windows : get_or nodes (i + 1) 0 ≡ length (windows E)
  node_windows = stands_number h.there 1 (omega arith)

  pub node_ranges : RangesAt nodes i E.ranges
  node_ranges = record { there = record { rest = h.there.rest; is = sym (drop-drop 2 i nodes) ∙ ap (drop 2) h.there.is }; places = h.fine.places }

-- the node of an encoding that stands somewhere
pub here_node : {nodes rows : List ℕ} {i j : ℕ} {E : Encoding} → Here nodes rows i j (forest (E ∷ [])) → NodeAt nodes i E
unfolding flat_nodes
here_node {nodes} {rows} {i} {j} {E} h =
    let X = flat_map range_numbers E.ranges in
    record {
      there = record { rest = (flat_nodes E.below ++ []) ++ h.at.rest; is = h.at.is ∙ ap (λ (l : List ℕ). length E.rows ∷ length (windows E) ∷ l) (append_assoc X (flat_nodes E.below ++ []) h.at.rest) };
      fine = h.well.fine.0;
      few_windows = omega (arith, tops_few E.below, h.well.fits.few_nodes);
      inside = omega (arith, here_nodes_fit h);
    }

-- the own rows of an encoding end within the rows
pub own_inside : {nodes rows : List ℕ} {i j : ℕ} {E : Encoding} → Here nodes rows i j (forest (E ∷ [])) → j + length E.rows * row_width ≤ length rows
own_inside h = omega (arith, here_rows_fit h)
