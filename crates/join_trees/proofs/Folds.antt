-- What a fold is, one encoding more or less; it is well-formed within the limits; and it does not depend on the grouping,
-- save for the order of windows, since joins of encodings that are alike are alike.
-- Assumes nothing.
use mathlib.Core.Path.{◌≡◌, refl, ap, ap₂, ◌∙◌}
use mathlib.Core.Bool.{Bool}
use mathlib.Core.List.{List, [], ◌∷◌, ◌++◌, map, flat_map, append_assoc}
use lib.ListN.{length}
use Rattle.record.specs.Tree.{Encoding, forest, windows, empty}
use Rattle.lists.specs.Lists.{All}
use Rattle.record.specs.WellFormed.{Fine, FineEncoding, Fits, WellFormed}
use Rattle.record.proofs.Tree.{induct, forest_listed, listed_forest}
use Rattle.lists.proofs.All.{all, all_imp}
use Rattle.join_trees.specs.Join.{join_rows, join_ranges, join, fold_from, fold}
use Rattle.join_trees.specs.Alike.{Alike}
use Rattle.lists.proofs.FlatMap.{flat_map_append, map_append}
use Rattle.join_trees.proofs.Join.{join_windows, join_node}
use Rattle.join_trees.proofs.Alike.{Pairs, pairs_cons, pairs_append, alike_refl, alike_trans}
use Rattle.join_trees.proofs.Grouping.{grouping}
use Rattle.join_trees.proofs.Units.{left_unit}
use Rattle.join_trees.proofs.Fine.{empty_fine, join_fine}

-- ---- One encoding more at the end, or at the beginning

pub fold_from_append : (g : Bool) (S : Encoding) (Ps Qs : List Encoding) → fold_from g S (Ps ++ Qs) ≡ fold_from g (fold_from g S Ps) Qs
fold_from_append g S [] Qs = refl
fold_from_append g S (P ∷ Ps) Qs = fold_from_append g (join g S P) Ps Qs

pub fold_none : (g : Bool) → fold g [] ≡ empty
fold_none g = refl

pub fold_last : (g : Bool) (Ps : List Encoding) (P : Encoding) → fold g (Ps ++ P ∷ []) ≡ join g (fold g Ps) P
fold_last g Ps P = fold_from_append g empty Ps (P ∷ [])

-- The fold of some well-formed encodings begins with the first of them.
pub fold_first : (g : Bool) (P : Encoding) (Ps : List Encoding) → FineEncoding P → fold g (P ∷ Ps) ≡ fold_from g P Ps
fold_first g P Ps h = ap (λ (E : Encoding). fold_from g E Ps) (left_unit g P h)

-- ---- It is well-formed

pub fold_from_fine : (g : Bool) (S : Encoding) (Ps : List Encoding) → Fine (forest (S ∷ [])) → Fine (forest Ps) → Fine (forest (fold_from g S Ps ∷ []))
fold_from_fine g S [] s p = s
fold_from_fine g S (P ∷ Ps) s (n, w, x) = fold_from_fine g (join g S P) Ps (join_fine g S P s (n, w, tt)) x

pub fold_fine : (g : Bool) (Ps : List Encoding) → Fine (forest Ps) → Fine (forest (fold g Ps ∷ []))
fold_fine g Ps p = fold_from_fine g empty Ps empty_fine p

pub fold_well : (g : Bool) (Ps : List Encoding) → WellFormed (forest Ps) → Fits (forest (fold g Ps ∷ [])) → WellFormed (forest (fold g Ps ∷ []))
fold_well g Ps p h = record { fine = fold_fine g Ps p.fine; fits = h }

-- ---- Alike operands

pairs_map : (f h : Encoding → Encoding) (xs ys : List Encoding) → All (λ x. (y : Encoding) → Alike x y → Alike (f x) (h y)) xs → Pairs xs ys → Pairs (map f xs) (map h ys)
pairs_map f h [] ys u e = rw e
pairs_map f h (x ∷ xs) ys (u, us) (b, v, a, e, al, rest) = (map h b, h v, map h a, rw (e, map_append), u v al, rw map_append at (pairs_map f h xs (b ++ a) us rest))

pairs_middle : (us vs xs bs as' : List Encoding) → Pairs us vs → Pairs xs (bs ++ as') → Pairs (us ++ xs) (bs ++ (vs ++ as'))
pairs_middle [] vs xs bs as' e p = rw e p
pairs_middle (u ∷ us) vs xs bs as' (c, z, d, e, al, rest) p =
    (bs ++ c, z, d ++ as', simp (e, append_assoc), al, simp append_assoc (simp append_assoc at (pairs_middle us (c ++ d) xs bs as' rest p)))

pairs_flat_map : (f h : Encoding → List Encoding) (xs ys : List Encoding) → All (λ x. (y : Encoding) → Alike x y → Pairs (f x) (h y)) xs → Pairs xs ys → Pairs (flat_map f xs) (flat_map h ys)
unfolding flat_map
pairs_flat_map f h [] ys u e = rw e refl
pairs_flat_map f h (x ∷ xs) ys (u, us) (b, v, a, e, al, rest) =
    rw (e, flat_map_append) (pairs_middle (f x) (h v) (flat_map f xs) (flat_map h b) (flat_map h a) (u v al) (rw flat_map_append at (pairs_flat_map f h xs (b ++ a) us rest)))

module _ (g : Bool) where
  alike_step : (S S' P P' : Encoding) → Alike S S' → Alike P P' → Pairs (join_windows g S P) (join_windows g S' P') → Alike (join g S P) (join g S' P')
  alike_step S S' P P' (r, q, s) (r', q', p) w =
      rw (join_node g S P, join_node g S' P')
      (ap₂ (join_rows g) r r', ap₂ (λ n q. join_ranges n q P.ranges) (ap length r) q ∙ ap (join_ranges (length S'.rows) S'.ranges) q', rw listed_forest w)

  pub join_alike : (S S' P P' : Encoding) → Alike S S' → Alike P P' → Alike (join g S P) (join g S' P')
  join_alike S =
      induct (λ S. (S' P P' : Encoding) → Alike S S' → Alike P P' → Alike (join g S P) (join g S' P'))
      (λ S ihS S' P P' aS aP. induct (λ P. (P' : Encoding) → Alike P P' → Alike (join g S P) (join g S' P'))
      (λ P ihP P' aP. alike_step S S' P P' aS aP
      (pairs_append (flat_map (λ s. map (join g s) (P ∷ windows P)) (windows S)) (flat_map (λ s. map (join g s) (P' ∷ windows P')) (windows S')) (map (join g S) (windows P)) (map (join g S') (windows P'))
      (pairs_flat_map (λ s. map (join g s) (P ∷ windows P)) (λ s. map (join g s) (P' ∷ windows P')) (windows S) (windows S')
      (all_imp (windows S) (λ s ih s' al. pairs_map (join g s) (join g s') (P ∷ windows P) (P' ∷ windows P') (all (P ∷ windows P) (λ x y. ih s' x y al)) (pairs_cons P P' (windows P) (windows P') aP (rw forest_listed aP.2))) ihS)
      (rw forest_listed aS.2))
      (pairs_map (join g S) (join g S') (windows P) (windows P') ihP (rw forest_listed aP.2)))) P P' aP) S

  pub fold_alike : (S S' : Encoding) (Ps : List Encoding) → Alike S S' → Alike (fold_from g S Ps) (fold_from g S' Ps)
  fold_alike S S' [] a = a
  fold_alike S S' (P ∷ Ps) a = fold_alike (join g S P) (join g S' P) Ps (join_alike S S' P P a (alike_refl P))

  -- A joined with a fold is the fold that begins with A.
  pub fold_grouping : (A B : Encoding) (Ps : List Encoding) → Alike (fold_from g (join g A B) Ps) (join g A (fold_from g B Ps))
  fold_grouping A B [] = alike_refl (join g A B)
  fold_grouping A B (P ∷ Ps) =
      alike_trans (fold_from g (join g (join g A B) P) Ps) (fold_from g (join g A (join g B P)) Ps) (join g A (fold_from g (join g B P) Ps))
      (fold_alike (join g (join g A B) P) (join g A (join g B P)) Ps (grouping g A B P)) (fold_grouping A (join g B P) Ps)
