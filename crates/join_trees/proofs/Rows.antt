-- A join's own rows and ranges do not depend on the grouping.
-- Assumes nothing.
use mathlib.Core.Path.{◌≡◌, refl, ap, ap₂, sym, ◌∙◌, fun_ext}
use mathlib.Core.Bool.{Bool, true, false}
use mathlib.Core.List.{List, [], ◌∷◌, ◌++◌, map, append_assoc, map-map}
use Prim.Native.Nat.{ℕ, zero, suc, ◌+◌}
use native.Mathlib.Omega.{arith}
use lib.ListN.{length, length-append, length-map}
use Rattle.record.specs.Tree.{Row, Range, shifted}
use Rattle.join_trees.specs.Join.{moved, last_end, base, join_rows, choose, join_ranges}
use Rattle.lists.proofs.FlatMap.{map_append}

sum_turned : (a m n : ℕ) → a + (m + n) ≡ a + n + m
sum_turned a m n = omega arith

moved_moved : (m n : ℕ) → moved (m + n) ≡ (λ r. moved m (moved n r))
moved_moved m n = fun_ext λ r i. record { id = r.id; type_id = r.type_id; pool = r.pool; text_start = r.text_start; text_length = r.text_length; word_mark = r.word_mark; word = r.word; offset_start = sum_turned r.offset_start m n i; offset_end = sum_turned r.offset_end m n i; special = r.special; attention = r.attention }

last_end_append : (n : ℕ) (s t : List Row) → last_end n (s ++ t) ≡ last_end (last_end n s) t
last_end_append n [] t = refl
last_end_append n (r ∷ s) t = last_end_append r.offset_end s t

last_end_moved : (m n : ℕ) (t : List Row) → last_end (m + n) (map (moved n) t) ≡ last_end m t + n
last_end_moved m n [] = refl
last_end_moved m n (r ∷ t) = last_end_moved r.offset_end n t

-- The last offset end adds up.
pub base_join : (g : Bool) (s t : List Row) → base g (join_rows g s t) ≡ base g s + base g t
base_join true s t =
    last_end_append 0 s (map (moved (last_end 0 s)) t) ∙ ap (λ (n : ℕ). last_end n (map (moved (last_end 0 s)) t)) (omega arith) ∙ last_end_moved 0 (last_end 0 s) t ∙ omega arith
base_join false s t = refl

pub join_rows_assoc : (g : Bool) (s t u : List Row) → join_rows g (join_rows g s t) u ≡ join_rows g s (join_rows g t u)
join_rows_assoc g s t u =
    simp (base_join, append_assoc, map_append, map-map, moved_moved)

pub length_join_rows : (g : Bool) (s t : List Row) → length (join_rows g s t) ≡ length s + length t
length_join_rows g s t = simp (length-append, length-map)

shifted_shifted : (m n : ℕ) (p : Range) → shifted (m + n) p ≡ shifted m (shifted n p)
shifted_shifted m n p = λ i. record { present = p.present; start = sum_turned p.start m n i; end = sum_turned p.end m n i }

pub chosen : (c m : ℕ) (x p : Range) (k : ℕ) → k ≡ suc c → choose k m x p ≡ shifted m p
chosen c m x p k e = rw e

choose_assoc : (b c m n : ℕ) (x y z : Range) → y.present ≡ b → z.present ≡ c → choose c (m + n) (choose b m x y) z ≡ choose (choose c n y z).present m x (choose c n y z)
choose_assoc b zero m n x y z p q = rw p
choose_assoc b (suc c) m n x y z p q = shifted_shifted m n z ∙ sym (chosen c m x (shifted n z) z.present q)

pub join_ranges_assoc : (m n : ℕ) (s t u : List Range) → join_ranges (m + n) (join_ranges m s t) u ≡ join_ranges m s (join_ranges n t u)
join_ranges_assoc m n [] t u = refl
join_ranges_assoc m n (x ∷ s) [] u = refl
join_ranges_assoc m n (x ∷ s) (y ∷ t) [] = refl
join_ranges_assoc m n (x ∷ s) (y ∷ t) (z ∷ u) = ap₂ ◌∷◌ (choose_assoc y.present z.present m n x y z refl refl) (join_ranges_assoc m n s t u)
