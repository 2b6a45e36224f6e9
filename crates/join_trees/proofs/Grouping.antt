-- Demand 3: a join of three does not depend on the grouping, save for the order of windows; and not even so if one of the three has no windows.
-- Assumes nothing.
use mathlib.Core.Path.{◌≡◌, refl, ap, ap₂, sym, ◌∙◌, fun_ext}
use mathlib.Core.Bool.{Bool}
use mathlib.Core.Logic.{◌⊎◌, inl, inr}
use mathlib.Core.List.{List, [], ◌∷◌, ◌++◌, map, flat_map, append_assoc, append-nil, map-map}
use Prim.Native.Nat.{◌+◌}
use lib.ListN.{length}
use Rattle.record.specs.Tree.{Row, Range, Encoding, windows, encoding}
use Rattle.lists.specs.Lists.{All}
use Rattle.record.proofs.Tree.{induct}
use Rattle.lists.proofs.All.{all, all_imp}
use Rattle.join_trees.specs.Join.{join_rows, join_ranges, join}
use Rattle.join_trees.specs.Alike.{Alike}
use Rattle.lists.proofs.FlatMap.{flat_map_map, flat_map_append, flat_map_flat_map, map_append, map_flat_map}
use Rattle.join_trees.proofs.Join.{join_windows, join_node, join_rows_lem, join_ranges_lem, join_windows_lem}
use Rattle.join_trees.proofs.Rows.{join_rows_assoc, join_ranges_assoc, length_join_rows}
use Rattle.join_trees.proofs.Alike.{Pairs, pairs_cons, pairs_append, pairs_turned, alike_node}

-- An encoding and its direct windows.
abbrev W : Encoding → List Encoding
W E = E ∷ windows E

-- f of each b and each c.
abbrev each : (Encoding → Encoding → Encoding) → List Encoding → List Encoding → List Encoding
each f bs cs = flat_map (λ b. map (f b) cs) bs

-- ---- The two groupings of three, their rows and ranges, and their windows

module _ (g : Bool) where
  abbrev left : Encoding → Encoding → Encoding → Encoding
  left a b c = join g (join g a b) c

  abbrev right : Encoding → Encoding → Encoding → Encoding
  right a b c = join g a (join g b c)

  abbrev rows₃ : Encoding → Encoding → Encoding → List Row
  rows₃ A B C = join_rows g A.rows (join_rows g B.rows C.rows)

  abbrev ranges₃ : Encoding → Encoding → Encoding → List Range
  ranges₃ A B C = join_ranges (length A.rows) A.ranges (join_ranges (length B.rows) B.ranges C.ranges)

  left_windows : (A B C : Encoding) → join_windows g (join g A B) C
      ≡ flat_map (λ a. each (left a) (W B) (W C)) (windows A) ++ (each (left A) (windows B) (W C) ++ map (left A B) (windows C))
  unfolding flat_map
  left_windows A B C = simp (join_windows_lem, flat_map_append, flat_map_flat_map, flat_map_map, append_assoc)

  spread : (f : Encoding → Encoding) (B C : Encoding) → map f (join_windows g B C)
      ≡ each (λ b c. f (join g b c)) (windows B) (W C) ++ map (λ c. f (join g B c)) (windows C)
  spread f B C = simp (map_append, map_flat_map, map-map)

  right_windows : (A B C : Encoding) → join_windows g A (join g B C)
      ≡ flat_map (λ a. right a B C ∷ (each (right a) (windows B) (W C) ++ map (right a B) (windows C))) (windows A)
      ++ (each (right A) (windows B) (W C) ++ map (right A B) (windows C))
  right_windows A B C = simp (join_windows_lem, spread)

  left_node : (A B C : Encoding) → left A B C ≡ encoding (rows₃ A B C) (ranges₃ A B C) (join_windows g (join g A B) C)
  left_node A B C =
      join_node g (join g A B) C
      ∙ ap₂ (λ r q. encoding r q (join_windows g (join g A B) C))
      (ap (λ r. join_rows g r C.rows) (join_rows_lem g A B) ∙ join_rows_assoc g A.rows B.rows C.rows)
      (ap₂ (λ n q. join_ranges n q C.ranges) (ap length (join_rows_lem g A B) ∙ length_join_rows g A.rows B.rows) (join_ranges_lem g A B)
      ∙ join_ranges_assoc (length A.rows) (length B.rows) A.ranges B.ranges C.ranges)

  right_node : (A B C : Encoding) → right A B C ≡ encoding (rows₃ A B C) (ranges₃ A B C) (join_windows g A (join g B C))
  right_node A B C =
      join_node g A (join g B C)
      ∙ ap₂ (λ r q. encoding (join_rows g A.rows r) (join_ranges (length A.rows) A.ranges q) (join_windows g A (join g B C))) (join_rows_lem g B C) (join_ranges_lem g B C)

-- ---- One step, for any relation R of encodings and L of lists that go together

module _ (R : Encoding → Encoding → Type 0) (L : List Encoding → List Encoding → Type 0)
    (at_node : (r : List Row) (q : List Range) (ws vs : List Encoding) → L ws vs → R (encoding r q ws) (encoding r q vs))
    (nil : L [] [])
    (cons : (x y : Encoding) (xs ys : List Encoding) → R x y → L xs ys → L (x ∷ xs) (y ∷ ys))
    (append : (xs ys us vs : List Encoding) → L xs ys → L us vs → L (xs ++ us) (ys ++ vs)) where
  over_map : (f h : Encoding → Encoding) (xs : List Encoding) → All (λ x. R (f x) (h x)) xs → L (map f xs) (map h xs)
  over_map f h [] u = nil
  over_map f h (x ∷ xs) (p, ps) = cons (f x) (h x) (map f xs) (map h xs) p (over_map f h xs ps)

  over_flat_map : (f h : Encoding → List Encoding) (xs : List Encoding) → All (λ x. L (f x) (h x)) xs → L (flat_map f xs) (flat_map h xs)
  unfolding flat_map
  over_flat_map f h [] u = nil
  over_flat_map f h (x ∷ xs) (p, ps) = append (f x) (h x) (flat_map f xs) (flat_map h xs) p (over_flat_map f h xs ps)

  over_each : (f h : Encoding → Encoding → Encoding) (bs cs : List Encoding) → All (λ b. All (λ c. R (f b c) (h b c)) cs) bs → L (each f bs cs) (each h bs cs)
  over_each f h bs cs r = over_flat_map (λ b. map (f b) cs) (λ b. map (h b) cs) bs (all_imp bs (λ b. over_map (f b) (h b) cs) r)

  -- The windows with A itself stand in the same order on both sides; those with a window a of A may be turned.
  step : (g : Bool) (A B C : Encoding)
      → All (λ a. L (each (left g a) (W B) (W C)) (right g a B C ∷ (each (right g a) (windows B) (W C) ++ map (right g a B) (windows C)))) (windows A)
      → All (λ b. All (λ c. R (left g A b c) (right g A b c)) (W C)) (windows B)
      → All (λ c. R (left g A B c) (right g A B c)) (windows C)
      → R (left g A B C) (right g A B C)
  step g A B C ha hb hc =
      rw (left_node g A B C, right_node g A B C)
      (at_node (rows₃ g A B C) (ranges₃ g A B C) (join_windows g (join g A B) C) (join_windows g A (join g B C))
      (rw (left_windows g A B C, right_windows g A B C)
      (append _ _ _ _ (over_flat_map _ _ (windows A) ha)
      (append _ _ _ _ (over_each (left g A) (right g A) (windows B) (W C) hb) (over_map (left g A B) (right g A B) (windows C) hc)))))

-- ---- Alike save for order

turned : (g : Bool) (a B C : Encoding) → ((B C : Encoding) → Alike (left g a B C) (right g a B C))
    → Pairs (each (left g a) (W B) (W C)) (right g a B C ∷ (each (right g a) (windows B) (W C) ++ map (right g a B) (windows C)))
unfolding flat_map
turned g a B C ih = (
  [],
  right g a B C,
  each (right g a) (windows B) (W C) ++ map (right g a B) (windows C),
  refl,
  ih B C,
  pairs_turned (map (left g a B) (windows C)) (map (right g a B) (windows C)) (each (left g a) (windows B) (W C)) (each (right g a) (windows B) (W C))
      (over_map Alike Pairs alike_node refl pairs_cons pairs_append (left g a B) (right g a B) (windows C) (all (windows C) (ih B)))
      (over_each Alike Pairs alike_node refl pairs_cons pairs_append (left g a) (right g a) (windows B) (W C) (all (windows B) (λ b. all (W C) (ih b)))),
)

pub grouping : (g : Bool) (A B C : Encoding) → Alike (join g (join g A B) C) (join g A (join g B C))
grouping g =
    induct (λ A. (B C : Encoding) → Alike (left g A B C) (right g A B C))
    (λ A ihA. induct (λ B. (C : Encoding) → Alike (left g A B C) (right g A B C))
    (λ B ihB. induct (λ C. Alike (left g A B C) (right g A B C))
    (λ C ihC. step Alike Pairs alike_node refl pairs_cons pairs_append g A B C
    (all_imp (windows A) (λ a. turned g a B C) ihA) (all_imp (windows B) (λ b. all (W C)) ihB) ihC)))

-- ---- Equal, the order too

-- The step, at equality.
exact_step : (g : Bool) (A B C : Encoding)
    → All (λ a. each (left g a) (W B) (W C) ≡ right g a B C ∷ (each (right g a) (windows B) (W C) ++ map (right g a B) (windows C))) (windows A)
    → All (λ b. All (λ c. left g A b c ≡ right g A b c) (W C)) (windows B)
    → All (λ c. left g A B c ≡ right g A B c) (windows C)
    → left g A B C ≡ right g A B C
exact_step =
    step (λ x y. x ≡ y) (λ xs ys. xs ≡ ys) (λ r q ws vs e. ap (encoding r q) e) refl (λ x y xs ys p q. ap₂ ◌∷◌ p q) (λ xs ys us vs p q. ap₂ ◌++◌ p q)

exact_A : (g : Bool) (A : Encoding) → windows A ≡ [] → (B C : Encoding) → left g A B C ≡ right g A B C
exact_A g A e =
    induct (λ B. (C : Encoding) → left g A B C ≡ right g A B C)
    (λ B ihB. induct (λ C. left g A B C ≡ right g A B C)
    (λ C ihC. exact_step g A B C (rw e tt) (all_imp (windows B) (λ b. all (W C)) ihB) ihC))

exact_B : (g : Bool) (B : Encoding) → windows B ≡ [] → (A C : Encoding) → left g A B C ≡ right g A B C
unfolding flat_map
exact_B g B e =
    induct (λ A. (C : Encoding) → left g A B C ≡ right g A B C)
    (λ A ihA. induct (λ C. left g A B C ≡ right g A B C)
    (λ C ihC. exact_step g A B C (all_imp (windows A) (λ a ih. rw e (append-nil (map (left g a B) (W C)) ∙ ap (λ (f : Encoding → Encoding). map f (W C)) (fun_ext ih))) ihA) (rw e tt) ihC))

-- With nothing beside the last of the three, both orders of the windows are the same.
singles : (l r : Encoding → Encoding → Encoding) (B C : Encoding) (cs : List Encoding) → cs ≡ [] → ((b : Encoding) → l b C ≡ r b C)
    → each l (W B) (C ∷ cs) ≡ r B C ∷ (each r (windows B) (C ∷ cs) ++ map (r B) cs)
unfolding flat_map
singles l r B C [] e h =
    ap (λ (f : Encoding → Encoding). flat_map (λ b. f b ∷ []) (W B)) (fun_ext {f = λ b. l b C} {g = λ b. r b C} h) ∙ sym (append-nil (flat_map (λ b. r b C ∷ []) (W B)))
singles l r B C (x ∷ xs) e h = cc

exact_C : (g : Bool) (C : Encoding) → windows C ≡ [] → (A B : Encoding) → left g A B C ≡ right g A B C
unfolding flat_map
exact_C g C e =
    induct (λ A. (B : Encoding) → left g A B C ≡ right g A B C)
    (λ A ihA. induct (λ B. left g A B C ≡ right g A B C)
    (λ B ihB. exact_step g A B C (all_imp (windows A) (λ a ih. singles (left g a) (right g a) B C (windows C) e ih) ihA) (all_imp (windows B) (λ b p. rw e (p, tt)) ihB) (rw e tt)))

pub grouping_exact : (g : Bool) (A B C : Encoding) → (windows A ≡ []) ⊎ (windows B ≡ []) ⊎ (windows C ≡ []) → join g (join g A B) C ≡ join g A (join g B C)
grouping_exact g A B C (inl e) = exact_A g A e B C
grouping_exact g A B C (inr (inl e)) = exact_B g B e A C
grouping_exact g A B C (inr (inr e)) = exact_C g C e A B
