-- Passing over a batch node by node: the node at a place, its rows, and what is to come after it.
-- Assumes nothing.
use mathlib.Core.Path.{◌≡◌, refl, sym, ap, ap₂, ◌∙◌}
use Prim.Native.Nat.{ℕ, ◌+◌, ◌*◌, ◌≤◌}
use native.Mathlib.Omega.{arith}
use mathlib.Core.List.{List, [], ◌++◌, flat_map, append_assoc, append-nil}
use lib.ListN.{length, get_or, take, drop, length-append, length-drop}
use lib.Seq.{take_at, drop_at, drop-drop}
use Rattle.record.specs.Tree.{Row, Range, Forest, none, node, tops, sequences}
use Rattle.record.specs.Flat.{row_width, node_width, row_numbers, range_numbers, range_at, flat_nodes, flat_rows}
use Rattle.record.specs.WellFormed.{Fine, Stores, nodes_in, most_nodes}
use Rattle.record.specs.Read.{several}
use Rattle.record.specs.Standing.{At}
use Rattle.record.specs.Passing.{followed, ranges_at, NodesOf, NodesToCome, RowsToCome}
use Rattle.record.proofs.Flat.{length_numbers, several_back, row_stored, range_stored, drop_node, length_nodes}
use Rattle.record.proofs.Standing.{at_size, at_count}

-- ---- One batch after another: what holds of both holds of the whole, and what is counted adds up

pub followed_nodes : (f y : Forest) → flat_nodes (followed f y) ≡ flat_nodes f ++ flat_nodes y
unfolding flat_nodes
followed_nodes none y = refl
followed_nodes (node r q w x) y = rw (followed_nodes x y) (simp append_assoc)

pub followed_rows : (f y : Forest) → flat_rows (followed f y) ≡ flat_rows f ++ flat_rows y
unfolding flat_rows
followed_rows none y = refl
followed_rows (node r q w x) y = rw (followed_rows x y) (simp append_assoc)

pub followed_assoc : (f y z : Forest) → followed (followed f y) z ≡ followed f (followed y z)
followed_assoc none y z = refl
followed_assoc (node r q w x) y z = ap (node r q w) (followed_assoc x y z)

pub followed_fine : (f y : Forest) → Fine f → Fine y → Fine (followed f y)
followed_fine none y h k = k
followed_fine (node r q w x) y (n, hw, hx) k = (n, hw, followed_fine x y hx k)

pub followed_tops : (f y : Forest) → tops (followed f y) ≡ tops f + tops y
followed_tops none y = omega arith
followed_tops (node r q w x) y = omega (arith, followed_tops x y)

-- no fewer nodes than encodings at the top
pub tops_few : (f : Forest) → tops f ≤ nodes_in f
tops_few none = omega arith
tops_few (node r q w x) = omega (arith, tops_few x)

-- ---- The nodes to come

pub all_to_come : {nodes : List ℕ} {f : Forest} → flat_nodes f ≡ nodes → Fine f → NodesToCome nodes 0 f
all_to_come e h = record { is = sym e; on = omega arith; fine = h }

pub nodes_left : {nodes : List ℕ} {i : ℕ} {f : Forest} → NodesToCome nodes i f → length nodes ≡ i + nodes_in f * node_width
nodes_left {nodes} {i} {f} h = omega (arith, h.on, length-drop i nodes, ap length h.is, length_nodes f h.fine)

module _ {nodes : List ℕ} {i : ℕ} {r : List Row} {q : List Range} {w x : Forest} (h : NodesToCome nodes i (node r q w x)) where
  stands : At nodes (flat_rows (node r q w x)) i 0 (node r q w x)
  stands = record { rest = []; is = h.is ∙ sym (append-nil (flat_nodes (node r q w x))); rest_rows = []; is_rows = sym (append-nil (flat_rows (node r q w x))) }

  pub coming_size : get_or nodes i 0 ≡ length r
  coming_size = at_size stands

  pub coming_windows : get_or nodes (i + 1) 0 ≡ tops w
  coming_windows = at_count stands

  pub coming_fits : i + node_width ≤ length nodes
  coming_fits = omega (arith, nodes_left h)

  pub coming_ranges : ranges_at nodes i ≡ q
  unfolding flat_nodes
  coming_ranges =
      let n : sequences ≡ length q = sym h.fine.0.places in
      ap₂ (λ (k : ℕ) (l : List ℕ). several range_at 3 k l) n (sym (drop-drop 2 i nodes) ∙ ap (drop 2) h.is)
      ∙ several_back range_stored q (flat_nodes w ++ flat_nodes x)

  pub coming_next : NodesToCome nodes (i + node_width) (followed w x)
  unfolding flat_nodes
  coming_next =
      let e : length (flat_map range_numbers q) ≡ sequences * 3 = length_numbers range_stored q ∙ ap (λ (k : ℕ). k * 3) h.fine.0.places in
      record {
        is = sym (drop-drop node_width i nodes) ∙ ap (drop node_width) h.is ∙ drop_node (length r) (tops w) (flat_map range_numbers q ++ (flat_nodes w ++ flat_nodes x)) ∙ drop_at (flat_map range_numbers q) (flat_nodes w ++ flat_nodes x) (sequences * 3) e ∙ sym (followed_nodes w x);
        on = coming_fits;
        fine = followed_fine w x h.fine.1 h.fine.2;
      }

-- the nodes of well-formed encodings: all are to come at first, and there are few
pub nodes_of : {nodes rows : List ℕ} {f : Forest} → Stores nodes rows f → NodesOf nodes f
nodes_of s = record { nodes_are = s.nodes_are; well = s.well }

pub nodes_come : {nodes : List ℕ} {f : Forest} → NodesOf nodes f → NodesToCome nodes 0 f
nodes_come h = all_to_come h.nodes_are h.well.fine

pub nodes_few : {nodes : List ℕ} {f : Forest} → NodesOf nodes f → length nodes ≤ most_nodes * node_width
nodes_few h = omega (arith, nodes_left (nodes_come h), h.well.fits.few_nodes)

-- ---- The rows to come

module _ {rows : List ℕ} {j : ℕ} {r : List Row} {q : List Range} {w x : Forest} (h : RowsToCome rows j (node r q w x)) where
  own_long : length (flat_map row_numbers r) ≡ length r * row_width
  own_long = length_numbers row_stored r

  pub coming_own : take (length r * row_width) (drop j rows) ≡ flat_map row_numbers r
  unfolding flat_rows
  coming_own = ap (take (length r * row_width)) h.is ∙ take_at (flat_map row_numbers r) (flat_rows w ++ flat_rows x) _ own_long

  pub coming_rows_fit : j + length r * row_width ≤ length rows
  unfolding flat_rows
  coming_rows_fit = omega (arith, h.on, length-drop j rows, ap length h.is, length-append (flat_map row_numbers r) (flat_rows w ++ flat_rows x), own_long)

  pub coming_rows_next : RowsToCome rows (j + length r * row_width) (followed w x)
  unfolding flat_rows
  coming_rows_next =
      record {
        is = sym (drop-drop (length r * row_width) j rows) ∙ ap (drop (length r * row_width)) h.is ∙ drop_at (flat_map row_numbers r) (flat_rows w ++ flat_rows x) _ own_long ∙ sym (followed_rows w x);
        on = coming_rows_fit;
      }
