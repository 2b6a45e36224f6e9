-- The walk from node to node, windows included: what is left of some encodings after the first node are its windows and
-- then those after it.
-- Assumes nothing.
use mathlib.Core.Path.{◌≡◌, refl, sym, ap, subst, ◌∙◌}
use Prim.Native.Nat.{ℕ, ◌+◌, ◌*◌, ◌-◌, ◌≤◌, ◌<◌, max}
use native.Mathlib.Omega.{arith}
use mathlib.Core.List.{List, ◌++◌, flat_map, append_assoc}
use lib.ListN.{length, get_or, length-append, length-drop}
use Rattle.record.specs.Tree.{Row, Range, Forest, none, node}
use Rattle.record.specs.Flat.{row_width, node_width, row_numbers, flat_nodes, flat_rows}
use Rattle.record.specs.WellFormed.{Fine, nodes_in}
use Rattle.record.proofs.Flat.{length_nodes, length_rows}
use Rattle.record.proofs.Standing.{at_size, at_after_node, at_after_rows}
use Rattle.join_trees.specs.Join.{last_end}
use Rattle.join_reach.specs.Reach.{largest, largest_base}
use Rattle.join_reach.specs.Promises.{RowsFrom, NodesFrom}

-- ---- One forest after another

abbrev chained : Forest → Forest → Forest
chained none x = x
chained (node r q w y) x = node r q w (chained y x)

chained_nodes : (w x : Forest) → flat_nodes (chained w x) ≡ flat_nodes w ++ flat_nodes x
unfolding flat_nodes
chained_nodes none x = refl
chained_nodes (node r q w y) x = rw (chained_nodes y x) (simp append_assoc)

chained_rows : (w x : Forest) → flat_rows (chained w x) ≡ flat_rows w ++ flat_rows x
unfolding flat_rows
chained_rows none x = refl
chained_rows (node r q w y) x = rw (chained_rows y x) (simp append_assoc)

chained_fine : (w x : Forest) → Fine w → Fine x → Fine (chained w x)
chained_fine none x hw hx = hx
chained_fine (node r q w y) x (n, hw, hy) hx = (n, hw, chained_fine y x hy hx)

chained_counts : (w x : Forest) → nodes_in (chained w x) ≡ nodes_in w + nodes_in x
chained_counts none x = omega arith
chained_counts (node r q w y) x = omega (arith, chained_counts y x)

chained_largest : (number : List Row → ℕ) (w x : Forest) → largest number (chained w x) ≡ max (largest number w) (largest number x)
unfolding largest
chained_largest number none x = omega arith
chained_largest number (node r q w y) x = omega (arith, chained_largest number y x)

-- ---- The nodes that are next

pub nodes_long : {nodes rows : List ℕ} {i j count : ℕ} {f : Forest} → NodesFrom nodes rows i j count f → 0 < count → i + count * node_width ≤ length nodes
nodes_long {nodes} {rows} {i} {j} {count} {f} h k = omega (arith, h.counts, ap length h.at.is, length-drop i nodes, length-append (flat_nodes f) h.at.rest, length_nodes f h.fine)

module _ {nodes rows : List ℕ} {i j count : ℕ} {r : List Row} {q : List Range} {w x : Forest} (h : NodesFrom nodes rows i j count (node r q w x)) where
  own_long : j + length r * row_width ≤ length rows
  own_long = omega (arith, h.on, ap length h.at.is_rows, length-drop j rows, length-append (flat_rows (node r q w x)) h.at.rest_rows, length_rows (node r q w x))

  own_rows_lem : RowsFrom rows j (length r) r
  unfolding flat_rows
  own_rows_lem = record { there = record { rest = (flat_rows w ++ flat_rows x) ++ h.at.rest_rows; is = h.at.is_rows ∙ append_assoc (flat_map row_numbers r) (flat_rows w ++ flat_rows x) h.at.rest_rows }; counts = refl }

  others : NodesFrom nodes rows (i + node_width) (j + length r * row_width) (count - 1) (chained w x)
  others =
      record {
        at = record {
          rest = h.at.rest;
          is = at_after_node h.at h.fine.0 ∙ rw chained_nodes (sym (append_assoc (flat_nodes w) (flat_nodes x) h.at.rest));
          rest_rows = h.at.rest_rows;
          is_rows = at_after_rows h.at ∙ rw chained_rows (sym (append_assoc (flat_rows w) (flat_rows x) h.at.rest_rows));
        };
        on = own_long;
        fine = chained_fine w x h.fine.1 h.fine.2;
        counts = omega (arith, h.counts, chained_counts w x);
      }

-- ---- The walk

-- of the encodings f, `left` nodes are to come, from places `at_node` and `row` on; `most` is the largest last offset end
-- of the others
pub record Walked (nodes rows : List ℕ) (f : Forest) (left at_node row most : ℕ) : Type 0 where
  pub to_come : Forest
  pub from : NodesFrom nodes rows at_node row left to_come
  pub all : largest_base f ≡ max most (largest_base to_come)

pub walked_start : {nodes rows : List ℕ} {i j count : ℕ} {f : Forest} → NodesFrom nodes rows i j count f → Walked nodes rows f count i j 0
walked_start {nodes} {rows} {i} {j} {count} {f} h = record { to_come = f; from = h; all = omega arith }

-- one turn: the rows of the next node, R, fit; and the walk after it
pub record Turn (nodes rows : List ℕ) (f : Forest) (at_node row most left' node' : ℕ) : Type 0 where
  pub R : List Row
  pub rows_fit : row + get_or nodes at_node 0 * row_width ≤ length rows
  pub own : RowsFrom rows row (get_or nodes at_node 0) R
  pub after : Walked nodes rows f left' node' (row + get_or nodes at_node 0 * row_width) (max most (last_end 0 R))

pub walked_turn : {nodes rows : List ℕ} {f : Forest} {left at_node row most : ℕ} (left' node' : ℕ) → Walked nodes rows f left at_node row most → 0 < left → left' ≡ left - 1 → node' ≡ at_node + node_width → Turn nodes rows f at_node row most left' node'
unfolding largest
walked_turn {nodes} {rows} {f} {left} {at_node} {row} {most} left' node' s k fewer further = go s.to_come s.from s.all
  where
    go : (y : Forest) → NodesFrom nodes rows at_node row left y → largest_base f ≡ max most (largest_base y) → Turn nodes rows f at_node row most left' node'
    go none h e = absurd (omega (arith, h.counts))
    go (node r q w x) h e =
        let size : get_or nodes at_node 0 ≡ length r = at_size h.at in
        record {
          R = r;
          rows_fit = rw size (own_long h);
          own = subst (λ (n : ℕ). RowsFrom rows row n r) (sym size) (own_rows_lem h);
          after = rw (size, fewer, further) (record { to_come = chained w x; from = others h; all = omega (arith, chained_largest (last_end 0) w x) });
        }

pub walked_end : {nodes rows : List ℕ} {f : Forest} {left at_node row most : ℕ} → Walked nodes rows f left at_node row most → left ≡ 0 → most ≡ largest_base f
unfolding largest
walked_end {nodes} {rows} {f} {left} {at_node} {row} {most} s z = go s.to_come s.from s.all
  where
    go : (y : Forest) → NodesFrom nodes rows at_node row left y → largest_base f ≡ max most (largest_base y) → most ≡ largest_base f
    go none h e = omega arith
    go (node r q w x) h e = absurd (omega (arith, h.counts))
