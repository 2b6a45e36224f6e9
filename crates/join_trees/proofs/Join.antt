-- A join's rows, ranges and windows as the document has them, and that this says what a join is.
-- Assumes nothing.
use mathlib.Core.Path.{◌≡◌, refl, ap, ap₂, sym, ◌∙◌, fun_ext}
use mathlib.Core.Bool.{Bool}
use mathlib.Core.List.{List, [], ◌∷◌, ◌++◌, map, flat_map}
use lib.ListN.{length}
use Rattle.record.specs.Tree.{Forest, none, node, Encoding, listed, windows, encoding}
use Rattle.lists.specs.Lists.{All}
use Rattle.record.proofs.Tree.{listed_forest, induct}
use Rattle.join_trees.specs.Join.{join_rows, join_ranges, join_over, with_each, each_with, join, AsWritten}

with_each_map : (g : Bool) (S : Encoding) (f : Forest) → with_each g S.rows S.ranges (each_with g S.below) f ≡ map (join g S) (listed f)
unfolding with_each join
with_each_map g S none = refl
with_each_map g S (node r q w x) = ap (join g S (record { rows = r; ranges = q; below = w }) ∷◌) (with_each_map g S x)

each_with_flat_map : (g : Bool) (f : Forest) (P : Encoding) → each_with g f P ≡ flat_map (λ s. join g s P ∷ map (join g s) (windows P)) (listed f)
unfolding each_with join flat_map
each_with_flat_map g none P = refl
each_with_flat_map g (node r q w x) P =
    let s : Encoding = record { rows = r; ranges = q; below = w } in
    ap₂ (λ (k l : List Encoding). join g s P ∷ k ++ l) (with_each_map g s P.below) (each_with_flat_map g x P)

-- "for each s of S, s with P, then s with each p of P; after these S with each p"
abbrev pub join_windows : Bool → Encoding → Encoding → List Encoding
join_windows g S P = flat_map (λ s. join g s P ∷ map (join g s) (windows P)) (windows S) ++ map (join g S) (windows P)

pub join_node : (g : Bool) (S P : Encoding) → join g S P ≡ encoding (join_rows g S.rows P.rows) (join_ranges (length S.rows) S.ranges P.ranges) (join_windows g S P)
unfolding join
join_node g S P =
    ap (join_over g S.rows S.ranges P) (ap₂ ◌++◌ (each_with_flat_map g S.below P) (with_each_map g S P.below))

pub join_as_written : (g : Bool) → AsWritten g (join g)
join_as_written = join_node

pub join_rows_lem : (g : Bool) (S P : Encoding) → (join g S P).rows ≡ join_rows g S.rows P.rows
unfolding join
join_rows_lem g S P = refl

pub join_ranges_lem : (g : Bool) (S P : Encoding) → (join g S P).ranges ≡ join_ranges (length S.rows) S.ranges P.ranges
unfolding join
join_ranges_lem g S P = refl

pub join_windows_lem : (g : Bool) (S P : Encoding) → windows (join g S P) ≡ join_windows g S P
join_windows_lem g S P = ap windows (join_node g S P) ∙ listed_forest (join_windows g S P)

-- ---- The document's equation has one solution

-- Whatever satisfies the document's description of a join is this join.
module _ (g : Bool) (f : Encoding → Encoding → Encoding) (described : AsWritten g f) where
  same_map : (f' h : Encoding → Encoding) (xs : List Encoding) → All (λ x. f' x ≡ h x) xs → map f' xs ≡ map h xs
  same_map f' h [] u = refl
  same_map f' h (x ∷ xs) (p, ps) = ap₂ ◌∷◌ p (same_map f' h xs ps)

  same_flat_map : (P : Encoding) (ss : List Encoding) → All (λ s. (P : Encoding) → f s P ≡ join g s P) ss
      → flat_map (λ s. f s P ∷ map (f s) (windows P)) ss ≡ flat_map (λ s. join g s P ∷ map (join g s) (windows P)) ss
  unfolding flat_map
  same_flat_map P [] u = refl
  same_flat_map P (s ∷ ss) (p, ps) = ap₂ ◌++◌ (ap (λ (h : Encoding → Encoding). h P ∷ map h (windows P)) (fun_ext p)) (same_flat_map P ss ps)

  pub join_only : (S P : Encoding) → f S P ≡ join g S P
  join_only =
      induct (λ S. (P : Encoding) → f S P ≡ join g S P)
      (λ S ihS. induct (λ P. f S P ≡ join g S P)
      (λ P ihP. described S P
      ∙ ap (encoding (join_rows g S.rows P.rows) (join_ranges (length S.rows) S.ranges P.ranges)) (ap₂ ◌++◌ (same_flat_map P (windows S) ihS) (same_map (f S) (join g S) (windows P) ihP))
      ∙ sym (join_node g S P)))
