-- Runs of elements of one width: write one more, write one over another.
-- Assumes nothing.
use mathlib.Core.Path.{◌≡◌, sym, ap, ◌∙◌}
use Prim.Native.Nat.{ℕ, zero, suc, ◌+◌, ◌*◌, ◌<◌}
use native.Mathlib.Nat.{suc-mul, zero-mul}
use native.Mathlib.Omega.{arith}
use mathlib.Core.List.{List, [], ◌∷◌, ◌++◌, flat_map, append-nil}
use lib.ListN.{length, set}
use lib.Seq.{sets}
use Rattle.lists.proofs.Sets.{sets_append}
use Rattle.lists.proofs.Writing.{sets_front, sets_right}
use Rattle.lists.proofs.FlatMap.{flat_map_append}
use Rattle.record.proofs.Flat.{Stored, length_numbers}

flat_map_one : {A : Type 0} (f : A → List ℕ) (x : A) → flat_map f (x ∷ []) ≡ f x
unfolding flat_map
flat_map_one f x = append-nil (f x)

module _ {A : Type 0} {width : ℕ} {numbers : A → List ℕ} {at : List ℕ → A} (s : Stored A width numbers at) where
  -- one more after the others
  pub sets_more : (l : List ℕ) (xs : List A) (x : A) → sets (sets l 0 (flat_map numbers xs)) (length xs * width) (numbers x) ≡ sets l 0 (flat_map numbers (xs ++ (x ∷ [])))
  sets_more l xs x =
      let e : length xs * width ≡ 0 + length (flat_map numbers xs) = omega (arith, length_numbers s xs) in
      ap (λ (k : ℕ). sets (sets l 0 (flat_map numbers xs)) k (numbers x)) e
      ∙ sets_append l 0 (flat_map numbers xs) (numbers x)
      ∙ ap (sets l 0) (sym (flat_map_append numbers xs (x ∷ []) ∙ ap (flat_map numbers xs ++◌) (flat_map_one numbers x)))

  -- number k replaced
  pub numbers_set : (xs : List A) (k : ℕ) (y : A) → k < length xs → sets (flat_map numbers xs) (k * width) (numbers y) ≡ flat_map numbers (set xs k y)
  unfolding flat_map
  numbers_set [] k y h = absurd (omega arith)
  numbers_set (x ∷ xs) zero y h =
      ap (λ (n : ℕ). sets (numbers x ++ flat_map numbers xs) n (numbers y)) (zero-mul width)
      ∙ sets_front (numbers x) (flat_map numbers xs) (numbers y) (s.long y ∙ sym (s.long x))
  numbers_set (x ∷ xs) (suc k) y h =
      let e : suc k * width ≡ length (numbers x) + k * width = omega (arith, suc-mul k width, s.long x) in
      ap (λ (n : ℕ). sets (numbers x ++ flat_map numbers xs) n (numbers y)) e
      ∙ sets_right (numbers x) (flat_map numbers xs) (k * width) (numbers y)
      ∙ ap (numbers x ++◌) (numbers_set xs k y (omega arith))
