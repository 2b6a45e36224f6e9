-- Elements read from a list of numbers, `width` numbers each: how many there are, one more, the one at a place, and what holds of all.
-- Assumes nothing.
use mathlib.Core.Path.{◌≡◌, refl, sym, ap, ◌∙◌}
use Prim.Native.Nat.{ℕ, zero, suc, ◌+◌, ◌*◌, ◌<◌}
use native.Mathlib.Nat.{suc-mul, zero-mul}
use native.Mathlib.Omega.{arith}
use mathlib.Core.List.{List, [], ◌∷◌, ◌++◌}
use lib.ListN.{length, get_or, drop}
use lib.Seq.{drop-drop}
use Rattle.lists.specs.Lists.{All}
use Rattle.record.specs.Read.{several}

module _ {A : Type 0} (at : List ℕ → A) (width : ℕ) where
  pub length_several : (n : ℕ) (l : List ℕ) → length (several at width n l) ≡ n
  unfolding several
  length_several zero l = refl
  length_several (suc n) l = ap suc (length_several n (drop width l))

  -- one more
  pub several_more : (n : ℕ) (l : List ℕ) → several at width (suc n) l ≡ several at width n l ++ (at (drop (n * width) l) ∷ [])
  unfolding several
  several_more zero l = ap (λ (k : ℕ). at (drop k l) ∷ []) (sym (zero-mul width))
  several_more (suc n) l =
      let e : width + n * width ≡ suc n * width = omega (arith, suc-mul n width) in
      let d : drop (n * width) (drop width l) ≡ drop (suc n * width) l = drop-drop (n * width) width l ∙ ap (λ (k : ℕ). drop k l) e in
      ap (at l ∷◌) (several_more n (drop width l) ∙ ap (λ (m : List ℕ). several at width n (drop width l) ++ (at m ∷ [])) d)

  -- the one at a place
  pub several_nth : (n : ℕ) (l : List ℕ) (k : ℕ) (d : A) → k < n → get_or (several at width n l) k d ≡ at (drop (k * width) l)
  unfolding several
  several_nth zero l k d h = absurd (omega arith)
  several_nth (suc n) l zero d h = rw (zero-mul width)
  several_nth (suc n) l (suc k) d h =
      let e : suc k * width ≡ width + k * width = omega (arith, suc-mul k width) in
      several_nth n (drop width l) k d (omega arith) ∙ rw (e, drop-drop)

  pub all_several : (M : A → Type 0) → ((l : List ℕ) → M (at l)) → (n : ℕ) (l : List ℕ) → All M (several at width n l)
  unfolding several
  all_several M f zero l = tt
  all_several M f (suc n) l = (f l, all_several M f n (drop width l))
