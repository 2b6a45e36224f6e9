-- The walk that measures encodings side by side: what is passed and what is left make up the whole.
-- Assumes nothing.
use mathlib.Core.Path.{◌≡◌, sym, ap, subst, ◌∙◌}
use Prim.Native.Nat.{ℕ, suc, ◌+◌, ◌*◌, ◌-◌, ◌≤◌, ◌<◌, max}
use native.Mathlib.Nat.{add-zero}
use native.Mathlib.Omega.{arith}
use mathlib.Core.List.{List, ◌∷◌, ◌++◌, flat_map, append_assoc}
use lib.ListN.{length, get_or, drop, length-append, length-drop}
use lib.Seq.{drop_at, drop-drop, get_or-drop}
use Rattle.record.specs.Tree.{Row, Range, Forest, none, node, tops, sequences}
use Rattle.record.specs.Flat.{node_width, range_numbers, flat_nodes}
use Rattle.record.specs.WellFormed.{nodes_in, rows_in, levels, most_nodes}
use Rattle.record.proofs.Flat.{length_numbers, range_stored, drop_node, length_nodes}
use Rattle.record_extent.specs.Size.{extent, size_of}
use Rattle.record_extent.specs.Promises.{Stands, with_node, Few}
use Rattle.record_extent.specs.declared.Extent.{Extent}

-- where the encodings after the first so many stand
abbrev pub placed : ℕ → Extent → ℕ
placed i s = i + s.nodes * node_width

-- of f from i on, this much is passed, and `left` encodings are left
pub record Passed (nodes : List ℕ) (i : ℕ) (f : Forest) (left : ℕ) (s : Extent) : Type 0 where
  pub to_come : Forest
  pub stands : Stands nodes (placed i s) left to_come
  pub all_nodes : nodes_in f ≡ s.nodes + nodes_in to_come
  pub all_rows_lem : rows_in f ≡ s.rows + rows_in to_come
  pub all_levels : levels f ≡ max s.levels (levels to_come)

pub passed_none : {nodes : List ℕ} {i k : ℕ} {f : Forest} → Stands nodes i k f → Passed nodes i f k (extent 0 0 0)
passed_none {nodes} {i} {k} {f} h =
    let e : i ≡ i + 0 * node_width = omega arith in
    record { to_come = f; stands = subst (λ (j : ℕ). Stands nodes j k f) e h; all_nodes = omega arith; all_rows_lem = omega arith; all_levels = omega arith }

-- the next encoding: its node fits, its windows stand after it
pub record Next (nodes : List ℕ) (at : ℕ) (w : Forest) (n : ℕ) : Type 0 where
  pub long : at + node_width ≤ length nodes
  pub size : get_or nodes at 0 ≡ n
  pub below : Stands nodes (at + node_width) (get_or nodes (at + 1) 0) w
  pub few : suc (nodes_in w) ≤ most_nodes

module _ {nodes : List ℕ} {at k : ℕ} {r : List Row} {q : List Range} {w x : Forest} (h : Stands nodes at k (node r q w x)) where
  ranges_long : length (flat_map range_numbers q) ≡ sequences * 3
  ranges_long = length_numbers range_stored q ∙ ap (λ (n : ℕ). n * 3) h.fine.0.places

  numbers : List ℕ
  unfolding flat_nodes
  numbers = flat_map range_numbers q ++ (flat_nodes w ++ (flat_nodes x ++ h.there.rest))

  stands_is : drop at nodes ≡ length r ∷ tops w ∷ numbers
  unfolding flat_nodes numbers
  stands_is = h.there.is ∙ simp append_assoc

  pub next : Next nodes at w (length r)
  unfolding flat_nodes numbers
  next =
      record {
        long = omega (arith, ap length stands_is, length-drop at nodes, ranges_long, length-append (flat_map range_numbers q) (flat_nodes w ++ (flat_nodes x ++ h.there.rest)));
        size = simp (get_or-drop, add-zero) at (ap (λ (l : List ℕ). get_or l 0 0) stands_is);
        below = record {
          there = record {
            rest = flat_nodes x ++ h.there.rest;
            is = sym (drop-drop node_width at nodes) ∙ ap (drop node_width) stands_is ∙ drop_node (length r) (tops w) numbers ∙ drop_at (flat_map range_numbers q) _ (sequences * 3) ranges_long;
          };
          counts = sym (simp get_or-drop at (ap (λ (l : List ℕ). get_or l 1 0) stands_is));
          fine = h.fine.1;
          few_nodes = omega (arith, h.few_nodes);
          few_rows = omega (arith, h.few_rows);
        };
        few = omega (arith, h.few_nodes);
      }

  rest_stands : Stands nodes (at + (nodes_in w + 1) * node_width) (k - 1) x
  unfolding flat_nodes next
  rest_stands =
      let b = next.below in
      let e : at + (nodes_in w + 1) * node_width ≡ at + node_width + nodes_in w * node_width = omega arith in
      record {
        there = record {
          rest = h.there.rest;
          is = ap (λ (i : ℕ). drop i nodes) e ∙ sym (drop-drop (nodes_in w * node_width) (at + node_width) nodes) ∙ ap (drop (nodes_in w * node_width)) b.there.is ∙ drop_at (flat_nodes w) _ (nodes_in w * node_width) (length_nodes w b.fine);
        };
        counts = omega (arith, h.counts);
        fine = h.fine.2;
        few_nodes = omega (arith, h.few_nodes);
        few_rows = omega (arith, h.few_rows);
      }

levels_nodes : (f : Forest) → levels f ≤ nodes_in f
levels_nodes none = omega arith
levels_nodes (node r q w x) = omega (arith, levels_nodes w, levels_nodes x)

-- one turn: the next encoding, of n rows and windows w, and the walk after it
pub record Turn (nodes : List ℕ) (i : ℕ) (f : Forest) (left : ℕ) (s : Extent) : Type 0 where
  pub w : Forest
  pub n : ℕ
  pub next : Next nodes (placed i s) w n
  pub few : Few s n (size_of w)
  pub after : Passed nodes i f (left - 1) (with_node s n (size_of w))

pub turn : {nodes : List ℕ} {i k left : ℕ} {s : Extent} {f : Forest} → Stands nodes i k f → Passed nodes i f left s → 0 < left → Turn nodes i f left s
turn {nodes} {i} {k} {left} {s} {f} h p l = go p.to_come p.stands p.all_nodes p.all_rows_lem p.all_levels
  where
    go : (y : Forest) → Stands nodes (placed i s) left y → nodes_in f ≡ s.nodes + nodes_in y → rows_in f ≡ s.rows + rows_in y → levels f ≡ max s.levels (levels y) → Turn nodes i f left s
    go none t a b c = absurd (omega (arith, t.counts))
    go (node r q w x) t a b c =
        let e : placed i s + (nodes_in w + 1) * node_width ≡ placed i (with_node s (length r) (size_of w)) = omega arith in
        record {
          w = w;
          n = length r;
          next = next t;
          few = record { few_nodes = omega (arith, h.few_nodes); few_rows = omega (arith, h.few_rows); few_levels = omega (arith, levels_nodes w, (next t).few) };
          after = record { to_come = x; stands = subst (λ (j : ℕ). Stands nodes j (left - 1) x) e (rest_stands t); all_nodes = omega arith; all_rows_lem = omega arith; all_levels = omega arith };
        }

-- the end: what is passed is the whole
pub passed_all : {nodes : List ℕ} {i : ℕ} {s : Extent} {f : Forest} → Passed nodes i f 0 s → s ≡ size_of f
passed_all {nodes} {i} {s} {f} p = go p.to_come p.stands.counts p.all_nodes p.all_rows_lem p.all_levels
  where
    same : s.nodes ≡ nodes_in f → s.rows ≡ rows_in f → s.levels ≡ levels f → s ≡ size_of f
    same a b c j = extent (a j) (b j) (c j)

    go : (y : Forest) → tops y ≡ 0 → nodes_in f ≡ s.nodes + nodes_in y → rows_in f ≡ s.rows + rows_in y → levels f ≡ max s.levels (levels y) → s ≡ size_of f
    go none z a b c = same (omega arith) (omega arith) (omega arith)
    go (node r q w x) z a b c = absurd (omega arith)
