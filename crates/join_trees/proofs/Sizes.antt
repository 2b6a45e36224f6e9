-- The sizes of a join against those of its operands: it has never fewer nodes, rows or levels than either, its levels
-- below the top are those of the two together, and its direct windows are counted. So the first step of a fold that is
-- too large decides.
-- Assumes nothing.
use mathlib.Core.Path.{◌≡◌, refl, ap, ap₂, sym, ◌∙◌}
use mathlib.Core.Bool.{Bool}
use mathlib.Core.List.{List, [], ◌∷◌, ◌++◌}
use Prim.Native.Nat.{ℕ, suc, ◌+◌, ◌*◌, ◌≤◌, max}
use native.Mathlib.Nat.{zero-mul, suc-mul, zero-max, mul-le-mul_right}
use native.Mathlib.Omega.{arith}
use lib.ListN.{length, length-append}
use Rattle.record.specs.Tree.{Row, Range, Forest, none, node, Encoding, listed, forest, windows}
use Rattle.record.specs.Flat.{row_width, node_width}
use Rattle.record.specs.WellFormed.{Fits, nodes_in, rows_in, levels}
use Rattle.record.specs.Outcome.{Room}
use Rattle.record.proofs.Tree.{listed_forest}
use Rattle.join_trees.specs.Join.{join_rows, with_each, each_with, join, window_count, fold_from}
use Rattle.join_trees.proofs.Rows.{length_join_rows}

-- ---- How many windows a join has

length_with_each : (g : Bool) (r : List Row) (q : List Range) (below : Encoding → List Encoding) (f : Forest) → length (with_each g r q below f) ≡ length (listed f)
unfolding with_each
length_with_each g r q below none = refl
length_with_each g r q below (node rp qp wp x) = ap suc (length_with_each g r q below x)

length_each_with : (g : Bool) (f : Forest) (P : Encoding) → length (each_with g f P) ≡ length (listed f) * suc (length (windows P))
unfolding each_with
length_each_with g none P = sym (zero-mul (suc (length (windows P))))
length_each_with g (node r q w x) P =
    let e = with_each g r q (each_with g w) P.below in
    omega (arith, suc-mul (length (listed x)) (suc (length (windows P))), length-append e (each_with g x P), length_with_each g r q (each_with g w) P.below, length_each_with g x P)

pub length_join : (g : Bool) (S P : Encoding) → length (windows (join g S P)) ≡ window_count (length (windows S)) (length (windows P))
unfolding join
length_join g S P =
    let s = each_with g S.below P in
    let p = with_each g S.rows S.ranges (each_with g S.below) P.below in
    ap length (listed_forest (s ++ p)) ∙ length-append s p ∙ ap₂ ◌+◌ (length_each_with g S.below P) (length_with_each g S.rows S.ranges (each_with g S.below) P.below)

-- ---- Levels

pub levels_append : (s t : List Encoding) → levels (forest (s ++ t)) ≡ max (levels (forest s)) (levels (forest t))
levels_append [] t = sym (zero-max (levels (forest t)))
levels_append (E ∷ s) t = omega (arith, levels_append s t)

-- n, if there is an encoding at all
abbrev if_any : Forest → ℕ → ℕ
if_any none n = 0
if_any (node r q w x) n = n

either : (w v : Forest) → max (if_any w (levels w + levels v)) (if_any v (levels w + levels v)) ≡ levels w + levels v
either none none = omega arith
either none (node r q v x) = omega arith
either (node r q w x) none = omega arith
either (node r q w x) (node r' q' v x') = omega arith

after : (x : Forest) (m n : ℕ) → max (suc (m + n)) (if_any x (m + levels x)) ≡ m + max (suc n) (levels x)
after none m n = omega arith
after (node r q w x) m n = omega arith

each_after : (v x : Forest) (m : ℕ) → max (suc (m + levels v)) (max (if_any v (m + levels v)) (if_any x (levels x + levels v))) ≡ max (suc m) (levels x) + levels v
each_after none none m = omega arith
each_after none (node r q w x) m = omega arith
each_after (node r' q' w' x') none m = omega arith
each_after (node r' q' w' x') (node r q w x) m = omega arith

module _ (g : Bool) where
  levels_with_each : (r : List Row) (q : List Range) (w f : Forest) → ((P : Encoding) → levels (forest (each_with g w P)) ≡ if_any w (levels w + levels P.below))
      → levels (forest (with_each g r q (each_with g w) f)) ≡ if_any f (levels w + levels f)
  unfolding with_each
  levels_with_each r q w none h = refl
  levels_with_each r q w (node rp qp wp x) h =
      let p : Encoding = record { rows = rp; ranges = qp; below = wp } in
      rw (levels_append (each_with g w p) (with_each g r q (each_with g w) wp), h p, levels_with_each r q w wp h, levels_with_each r q w x h, either w wp) (after x (levels w) (levels wp))

  levels_each_with : (f : Forest) (P : Encoding) → levels (forest (each_with g f P)) ≡ if_any f (levels f + levels P.below)
  unfolding each_with
  levels_each_with none P = refl
  levels_each_with (node r q w x) P =
      let e = with_each g r q (each_with g w) P.below in
      rw (levels_append (each_with g w P) e, levels_append e (each_with g x P), levels_each_with w P, levels_each_with x P, levels_with_each r q w P.below (levels_each_with w), either w P.below) (each_after P.below x (levels w))

  -- The levels below a join are those below its operands together.
  pub levels_join : (S P : Encoding) → levels (join g S P).below ≡ levels S.below + levels P.below
  unfolding join
  levels_join S P =
      rw (levels_append (each_with g S.below P) (with_each g S.rows S.ranges (each_with g S.below) P.below), levels_each_with S.below P, levels_with_each S.rows S.ranges S.below P.below (levels_each_with S.below)) (either S.below P.below)

-- ---- Nodes and rows, by one law: what counts c of the rows of each node

abbrev pub total : (List Row → ℕ) → Forest → ℕ
total c none = 0
total c (node r q w x) = c r + (total c w + total c x)

abbrev pub one : List Row → ℕ
one r = 1

pub total_nodes : (f : Forest) → total one f ≡ nodes_in f
total_nodes none = refl
total_nodes (node r q w x) = omega (arith, total_nodes w, total_nodes x)

pub total_rows : (f : Forest) → total length f ≡ rows_in f
total_rows none = refl
total_rows (node r q w x) = omega (arith, total_rows w, total_rows x)

total_append : (c : List Row → ℕ) (s t : List Encoding) → total c (forest (s ++ t)) ≡ total c (forest s) + total c (forest t)
total_append c [] t = omega arith
total_append c (E ∷ s) t = omega (arith, total_append c s t)

module _ (g : Bool) (c : List Row → ℕ) where
  module _ (more : (r rp : List Row) → c r ≤ c (join_rows g r rp)) where
    each_with_more : (f : Forest) (P : Encoding) → total c f ≤ total c (forest (each_with g f P))
    unfolding each_with
    each_with_more none P = omega arith
    each_with_more (node r q w x) P =
        let each = with_each g r q (each_with g w) P.below in
        omega (arith, more r P.rows, total_append c (each_with g w P) each, total_append c each (each_with g x P), each_with_more w P, each_with_more x P)

    join_more_left : (S P : Encoding) → total c (forest (S ∷ [])) ≤ total c (forest (join g S P ∷ []))
    unfolding join
    join_more_left S P = omega (arith, more S.rows P.rows, total_append c (each_with g S.below P) (with_each g S.rows S.ranges (each_with g S.below) P.below), each_with_more S.below P)

  module _ (more : (r rp : List Row) → c rp ≤ c (join_rows g r rp)) where
    with_each_more : (r : List Row) (q : List Range) (below : Encoding → List Encoding) (f : Forest) → total c f ≤ total c (forest (with_each g r q below f))
    unfolding with_each
    with_each_more r q below none = omega arith
    with_each_more r q below (node rp qp wp x) =
        let p : Encoding = record { rows = rp; ranges = qp; below = wp } in
        omega (arith, more r rp, total_append c (below p) (with_each g r q below wp), with_each_more r q below wp, with_each_more r q below x)

    join_more_right : (S P : Encoding) → total c (forest (P ∷ [])) ≤ total c (forest (join g S P ∷ []))
    unfolding join
    join_more_right S P = omega (arith, more S.rows P.rows, total_append c (each_with g S.below P) (with_each g S.rows S.ranges (each_with g S.below) P.below), with_each_more S.rows S.ranges (each_with g S.below) P.below)

-- ---- No fewer of anything

pub record NoMore (f h : Forest) : Type 0 where
  pub nodes : nodes_in f ≤ nodes_in h
  pub rows : rows_in f ≤ rows_in h
  pub deep : levels f ≤ levels h

pub no_more_fits : {f h : Forest} → NoMore f h → Fits h → Fits f
no_more_fits l h = record { few_nodes = omega (arith, l.nodes, h.few_nodes); few_rows = omega (arith, l.rows, h.few_rows); few_levels = omega (arith, l.deep, h.few_levels) }

pub no_more_room : {nodes rows : List ℕ} {f h : Forest} → NoMore f h → Room nodes rows h → Room nodes rows f
no_more_room {nodes} {rows} {f} {h} l r = record {
  fits = no_more_fits l r.fits;
  nodes_fit = omega (arith, mul-le-mul_right node_width l.nodes, r.nodes_fit);
  rows_fit = omega (arith, mul-le-mul_right row_width l.rows, r.rows_fit);
}

module _ (g : Bool) (S P : Encoding) where
  pub join_no_less_left : NoMore (forest (S ∷ [])) (forest (join g S P ∷ []))
  join_no_less_left = record {
    nodes = omega (arith, total_nodes (forest (S ∷ [])), total_nodes (forest (join g S P ∷ [])), join_more_left g one (λ r rp. omega arith) S P);
    rows = omega (arith, total_rows (forest (S ∷ [])), total_rows (forest (join g S P ∷ [])), join_more_left g length (λ r rp. omega (arith, length_join_rows g r rp)) S P);
    deep = omega (arith, levels_join g S P);
  }

  pub join_no_less_right : NoMore (forest (P ∷ [])) (forest (join g S P ∷ []))
  join_no_less_right = record {
    nodes = omega (arith, total_nodes (forest (P ∷ [])), total_nodes (forest (join g S P ∷ [])), join_more_right g one (λ r rp. omega arith) S P);
    rows = omega (arith, total_rows (forest (P ∷ [])), total_rows (forest (join g S P ∷ [])), join_more_right g length (λ r rp. omega (arith, length_join_rows g r rp)) S P);
    deep = omega (arith, levels_join g S P);
  }

-- So what was joined so far never has more than the fold in the end.
pub fold_no_less : (g : Bool) (S : Encoding) (Ps : List Encoding) → NoMore (forest (S ∷ [])) (forest (fold_from g S Ps ∷ []))
fold_no_less g S [] = record { nodes = omega arith; rows = omega arith; deep = omega arith }
fold_no_less g S (P ∷ Ps) =
    let a = join_no_less_left g S P in
    let b = fold_no_less g (join g S P) Ps in
    record { nodes = omega (arith, a.nodes, b.nodes); rows = omega (arith, a.rows, b.rows); deep = omega (arith, a.deep, b.deep) }
