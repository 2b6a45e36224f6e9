-- A search through a part of a list, one element at a time.
-- Assumes nothing.
use mathlib.Core.Path.{◌≡◌, ap, ◌∙◌}
use Prim.Native.Nat.{ℕ, suc, ◌+◌, ◌-◌, ◌≤◌, ◌<◌}
use native.Mathlib.Numerals.{add-one}
use native.Mathlib.Omega.{arith}
use mathlib.Core.Bool.{Bool, true, false}
use mathlib.Core.Option.{none as nothing, some}
use mathlib.Core.List.{List, [], ◌∷◌}
use lib.ListN.{length, get_or}
use lib.Seq.{drop-cons}
use Rattle.lookup_ranges.specs.First.{first_from, part}

module _ {A : Type 0} (l : List A) (i e : ℕ) where
  pub part_end : e ≤ i → part i e l ≡ []
  part_end h =
      let z : e - i ≡ 0 = omega arith in
      rw z

  pub part_cons : (d : A) → i < e → e ≤ length l → part i e l ≡ get_or l i d ∷ part (i + 1) e l
  part_cons d h k =
      let z : e - i ≡ suc (e - suc i) = omega arith in
      let k' : i < length l = omega arith in
      rw (drop-cons l i d k', z, add-one)

module _ {A : Type 0} (t : A → Bool) (l : List A) (i e : ℕ) where
  pub first_end : e ≤ i → first_from t i (part i e l) ≡ nothing
  unfolding first_from
  first_end h = rw (part_end l i e h)

  pub first_hit : (d : A) → i < e → e ≤ length l → t (get_or l i d) ≡ true → first_from t i (part i e l) ≡ some i
  unfolding first_from
  first_hit d h k y = rw (part_cons l i e d h k, y)

  pub first_miss : (d : A) → i < e → e ≤ length l → t (get_or l i d) ≡ false → first_from t i (part i e l) ≡ first_from t (i + 1) (part (i + 1) e l)
  unfolding first_from
  first_miss d h k y = ap (first_from t i) (part_cons l i e d h k) ∙ rw (first_from, y, add-one)
