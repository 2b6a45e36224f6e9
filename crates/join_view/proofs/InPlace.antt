-- Elements of one width, one after another, that are written over others in place.
-- Assumes nothing.
use mathlib.Core.Path.{◌≡◌, sym, ap, ◌∙◌}
use mathlib.Core.List.{List, [], ◌∷◌, ◌++◌, flat_map, append_assoc, append-nil}
use Prim.Native.Nat.{ℕ, suc, ◌+◌, ◌*◌, ◌≤◌, ◌<◌}
use native.Mathlib.Nat.{suc-mul, mul-le-mul_right}
use native.Mathlib.Omega.{arith}
use lib.ListN.{length, get_or, take, drop, set, length-set}
use lib.Seq.{sets, drop-drop, drop_at, length-take-le, take-suc, split_at}
use Rattle.lists.specs.Stretch.{Stretch}
use Rattle.lists.proofs.Sets.{sets_append}
use Rattle.lists.proofs.FlatMap.{flat_map_append}
use Rattle.lists.proofs.Written.{drop_past, sets_inside, stands_over}
use Rattle.record.proofs.Flat.{Stored, length_numbers}
use Rattle.lists.proofs.Writing.{sets_left}
use Rattle.record_write.proofs.Runs.{numbers_set}

flat_map_one : {A : Type 0} (f : A → List ℕ) (x : A) → flat_map f (x ∷ []) ≡ f x
unfolding flat_map
flat_map_one f x = append-nil (f x)

module _ {A : Type 0} {width : ℕ} {numbers : A → List ℕ} {at : List ℕ → A} (s : Stored A width numbers at) where
  firsts_long : (ys : List A) (i : ℕ) → i ≤ length ys → length (flat_map numbers (take i ys)) ≡ i * width
  firsts_long ys i h = length_numbers s (take i ys) ∙ ap (◌* width) (length-take-le i ys h)

  -- one of those that stand at j
  pub element_stands : (l : List ℕ) (j : ℕ) (xs : List A) (i : ℕ) (d : A) → Stretch l j (flat_map numbers xs) → i < length xs → Stretch l (j + i * width) (numbers (get_or xs i d))
  unfolding flat_map
  element_stands l j xs i d h k =
      let whole : flat_map numbers xs ≡ flat_map numbers (take i xs) ++ (numbers (get_or xs i d) ++ flat_map numbers (drop (suc i) xs)) = ap (flat_map numbers) (split_at xs i d k) ∙ flat_map_append numbers (take i xs) (get_or xs i d ∷ drop (suc i) xs) in
      record {
        rest = flat_map numbers (drop (suc i) xs) ++ h.rest;
        is = sym (drop-drop (i * width) j l)
            ∙ ap (drop (i * width)) (h.is ∙ ap (◌++ h.rest) whole ∙ append_assoc (flat_map numbers (take i xs)) _ h.rest)
            ∙ drop_at (flat_map numbers (take i xs)) _ (i * width) (firsts_long xs i (omega arith))
            ∙ append_assoc (numbers (get_or xs i d)) _ h.rest;
      }

  -- one of them written over
  pub element_set : (l : List ℕ) (j : ℕ) (xs : List A) (k : ℕ) (y : A) → Stretch l j (flat_map numbers xs) → k < length xs → sets l (j + k * width) (numbers y) ≡ sets l j (flat_map numbers (set xs k y))
  element_set l j xs k y h b =
      let ys = flat_map numbers (set xs k y) in
      sets_inside l j (k * width) (numbers y)
      ∙ ap (take j l ++◌) (ap (λ (m : List ℕ). sets m (k * width) (numbers y)) h.is
      ∙ sets_left (flat_map numbers xs) h.rest (k * width) (numbers y) (omega (arith, s.long y, length_numbers s xs, suc-mul k width, mul-le-mul_right width b))
      ∙ ap (◌++ h.rest) (numbers_set s xs k y b))
      ∙ sym (stands_over h ys (length_numbers s (set xs k y) ∙ ap (◌* width) (length-set xs k y) ∙ sym (length_numbers s xs)))

  -- the first i of ys are written over those of xs: the next of xs still stands there
  pub next_stands : (l : List ℕ) (j : ℕ) (xs ys : List A) (i : ℕ) (d : A) → Stretch l j (flat_map numbers xs) → length ys ≡ length xs → i < length xs → Stretch (sets l j (flat_map numbers (take i ys))) (j + i * width) (numbers (get_or xs i d))
  next_stands l j xs ys i d h n k =
      let e = element_stands l j xs i d h k in
      record { rest = e.rest; is = drop_past l j (flat_map numbers (take i ys)) (j + i * width) (omega (arith, firsts_long ys i (omega arith))) ∙ e.is }

  -- and the next of ys is written over it
  pub next_written : (l : List ℕ) (j : ℕ) (ys : List A) (i : ℕ) (d : A) → i < length ys
      → sets (sets l j (flat_map numbers (take i ys))) (j + i * width) (numbers (get_or ys i d)) ≡ sets l j (flat_map numbers (take (suc i) ys))
  next_written l j ys i d h =
      ap (λ (n : ℕ). sets (sets l j (flat_map numbers (take i ys))) (j + n) (numbers (get_or ys i d))) (sym (firsts_long ys i (omega arith)))
      ∙ sets_append l j (flat_map numbers (take i ys)) (numbers (get_or ys i d))
      ∙ ap (sets l j) (sym (ap (flat_map numbers) (take-suc ys i d h) ∙ flat_map_append numbers (take i ys) (get_or ys i d ∷ []) ∙ ap (flat_map numbers (take i ys) ++◌) (flat_map_one numbers (get_or ys i d))))
