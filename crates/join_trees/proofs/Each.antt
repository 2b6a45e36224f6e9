-- What holds of every node of a join, as it holds of every node of its operands; and back.
-- Assumes nothing.
use mathlib.Core.Bool.{Bool}
use mathlib.Core.List.{List, [], ◌∷◌, ◌++◌}
use lib.ListN.{length}
use Rattle.record.specs.Tree.{Row, Range, Forest, none, node, Encoding, forest}
use Rattle.join_trees.specs.Join.{join_rows, join_ranges, with_each, each_with, join}

-- N holds of the rows and the ranges of every encoding, windows included.
abbrev pub Each : (List Row → List Range → Type 0) → Forest → Type 0
Each N none = Unit {0}
Each N (node r q w x) = N r q × Each N w × Each N x

pub each_imp : {N N' : List Row → List Range → Type 0} → ((r : List Row) (q : List Range) → N r q → N' r q) → (f : Forest) → Each N f → Each N' f
each_imp h none t = tt
each_imp h (node r q w x) (n, tw, tx) = (h r q n, each_imp h w tw, each_imp h x tx)

module _ (N : List Row → List Range → Type 0) where
  each_append : (s t : List Encoding) → Each N (forest s) → Each N (forest t) → Each N (forest (s ++ t))
  each_append [] t u v = v
  each_append (E ∷ s) t (n, w, x) v = (n, w, each_append s t x v)

  pub each_first : (s t : List Encoding) → Each N (forest (s ++ t)) → Each N (forest s)
  each_first [] t u = tt
  each_first (E ∷ s) t (n, w, x) = (n, w, each_first s t x)

  pub each_last : (s t : List Encoding) → Each N (forest (s ++ t)) → Each N (forest t)
  each_last [] t u = u
  each_last (E ∷ s) t (n, w, x) = each_last s t x

-- ---- From the operands to the join

module _ (g : Bool) (N N' M : List Row → List Range → Type 0)
    (closed : (r : List Row) (q : List Range) (rp : List Row) (qp : List Range) → N r q → N' rp qp → M (join_rows g r rp) (join_ranges (length r) q qp)) where
  with_each_each : (r : List Row) (q : List Range) (below : Encoding → List Encoding) → N r q → ((p : Encoding) → Each N' (forest (p ∷ [])) → Each M (forest (below p))) → (f : Forest) → Each N' f → Each M (forest (with_each g r q below f))
  unfolding with_each
  with_each_each r q below n h none t = tt
  with_each_each r q below n h (node rp qp wp x) (np, tw, tx) =
      let p : Encoding = record { rows = rp; ranges = qp; below = wp } in
      (closed r q rp qp n np, each_append M (below p) (with_each g r q below wp) (h p (np, tw, tt)) (with_each_each r q below n h wp tw), with_each_each r q below n h x tx)

  each_with_each : (f : Forest) → Each N f → (P : Encoding) → Each N' (forest (P ∷ [])) → Each M (forest (each_with g f P))
  unfolding each_with
  each_with_each none t P p = tt
  each_with_each (node r q w x) (n, tw, tx) P p =
      let each = with_each g r q (each_with g w) P.below in
      let m = with_each_each r q (each_with g w) n (each_with_each w tw) P.below p.1 in
      (closed r q P.rows P.ranges n p.0, each_append M (each_with g w P) each (each_with_each w tw P p) m, each_append M each (each_with g x P) m (each_with_each x tx P p))

  pub join_each : (S P : Encoding) → Each N (forest (S ∷ [])) → Each N' (forest (P ∷ [])) → Each M (forest (join g S P ∷ []))
  unfolding join
  join_each S P (n, t, u) p =
      let each = with_each g S.rows S.ranges (each_with g S.below) P.below in
      (closed S.rows S.ranges P.rows P.ranges n p.0, each_append M (each_with g S.below P) each (each_with_each S.below t P p) (with_each_each S.rows S.ranges (each_with g S.below) n (each_with_each S.below t) P.below p.1), tt)

-- ---- From the join to its operands

module _ (g : Bool) (M : List Row → List Range → Type 0) where
  -- M holds of what a node of S and a node of P are joined to
  abbrev Paired : List Row → List Range → List Row → List Range → Type 0
  Paired r q rp qp = M (join_rows g r rp) (join_ranges (length r) q qp)

  with_each_pairs : (r : List Row) (q : List Range) (below : Encoding → List Encoding) (f : Forest) → Each M (forest (with_each g r q below f)) → Each (Paired r q) f
  unfolding with_each
  with_each_pairs r q below none m = tt
  with_each_pairs r q below (node rp qp wp x) (m, mw, mx) =
      let p : Encoding = record { rows = rp; ranges = qp; below = wp } in
      (m, with_each_pairs r q below wp (each_last M (below p) (with_each g r q below wp) mw), with_each_pairs r q below x mx)

  each_with_pairs : (f : Forest) (P : Encoding) → Each M (forest (each_with g f P)) → Each (λ r q. Each (Paired r q) (forest (P ∷ []))) f
  unfolding each_with
  each_with_pairs none P m = tt
  each_with_pairs (node r q w x) P (m, mw, mx) =
      let each = with_each g r q (each_with g w) P.below in
      ((m, with_each_pairs r q (each_with g w) P.below (each_first M each (each_with g x P) mx), tt), each_with_pairs w P (each_first M (each_with g w P) each mw), each_with_pairs x P (each_last M each (each_with g x P) mx))

  -- Every node of S is joined with every node of P.
  pub join_pairs : (S P : Encoding) → Each M (forest (join g S P ∷ [])) → Each (λ r q. Each (λ rp qp. M (join_rows g r rp) (join_ranges (length r) q qp)) (forest (P ∷ []))) (forest (S ∷ []))
  unfolding join
  join_pairs S P (m, mw, u) =
      ((m, with_each_pairs S.rows S.ranges (each_with g S.below) P.below (each_last M (each_with g S.below P) _ mw), tt), each_with_pairs S.below P (each_first M (each_with g S.below P) _ mw), tt)

module _ (g : Bool) (N M : List Row → List Range → Type 0) where
  pub join_each_left : ((r : List Row) (q : List Range) (rp : List Row) (qp : List Range) → M (join_rows g r rp) (join_ranges (length r) q qp) → N r q)
      → (S P : Encoding) → Each M (forest (join g S P ∷ [])) → Each N (forest (S ∷ []))
  join_each_left back S P h = each_imp (λ r q m. back r q P.rows P.ranges m.0) (forest (S ∷ [])) (join_pairs g M S P h)

  pub join_each_right : ((r : List Row) (q : List Range) (rp : List Row) (qp : List Range) → M (join_rows g r rp) (join_ranges (length r) q qp) → N rp qp)
      → (S P : Encoding) → Each M (forest (join g S P ∷ [])) → Each N (forest (P ∷ []))
  join_each_right back S P h = each_imp (λ rp qp m. back S.rows S.ranges rp qp m) (forest (P ∷ [])) (join_pairs g M S P h).0
