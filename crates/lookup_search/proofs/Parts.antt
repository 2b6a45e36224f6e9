-- Elements of a part of a list, and of a list before its first element of some kind.
-- Assumes nothing.
use mathlib.Core.Path.{◌≡◌, refl, ◌∙◌}
use Prim.Native.Nat.{ℕ, zero, suc, ◌+◌, ◌-◌, ◌≤◌, ◌<◌}
use native.Mathlib.Omega.{arith}
use mathlib.Core.Bool.{Bool, true, false, cond}
use mathlib.Core.Option.{none as nothing, some, none-ne-some, some-injective}
use mathlib.Core.List.{List, [], ◌∷◌}
use lib.ListN.{length, get_or, get_elem?, length-take, length-drop}
use lib.Seq.{get_or-take, get_or-drop}
use Rattle.lookup_ranges.specs.First.{until, part}

module _ {A : Type 0} where
  pub length_part : (s e : ℕ) (l : List A) → e ≤ length l → length (part s e l) ≡ e - s
  length_part s e l h = simp (length-take, length-drop) (omega arith)

  pub part_at : (s e : ℕ) (l : List A) (j : ℕ) (d : A) → j < e - s → get_or (part s e l) j d ≡ get_or l (s + j) d
  part_at s e l j d h = get_or-take (e - s) _ j d h ∙ get_or-drop s l j d

  pub there : (l : List A) (i : ℕ) (d : A) → i < length l → get_elem? l i ≡ some (get_or l i d)
  there [] i d h = absurd (omega arith)
  there (x ∷ l) zero d h = refl
  there (x ∷ l) (suc i) d h = there l i d (omega arith)

  pub not_there : (l : List A) (i : ℕ) → length l ≤ i → get_elem? l i ≡ nothing
  not_there [] i h = refl
  not_there (x ∷ l) zero h = absurd (omega arith)
  not_there (x ∷ l) (suc i) h = not_there l i (omega arith)

  pub get_d_there : (l : List A) (i : ℕ) (d a : A) → get_elem? l i ≡ some a → get_or l i d ≡ a
  get_d_there [] i d a e = absurd (none-ne-some a e)
  get_d_there (x ∷ l) zero d a e = some-injective x a e
  get_d_there (x ∷ l) (suc i) d a e = get_d_there l i d a e

  pub inside_there : (l : List A) (i : ℕ) (a : A) → get_elem? l i ≡ some a → i < length l
  inside_there [] i a e = absurd (none-ne-some a e)
  inside_there (x ∷ l) zero a e = omega arith
  inside_there (x ∷ l) (suc i) a e = omega (arith, inside_there l i a e)

  module _ (t : A → Bool) where
    pub length_until : (l : List A) → length (until t l) ≤ length l
    unfolding until
    length_until [] = omega arith
    length_until (x ∷ l) = go (t x) (length_until l)
      where
        go : (b : Bool) → length (until t l) ≤ length l → length (cond b [] (x ∷ until t l)) ≤ suc (length l)
        go true h = omega arith
        go false h = omega arith

    pub until_at : (l : List A) (j : ℕ) (d : A) → j < length (until t l) → get_or (until t l) j d ≡ get_or l j d
    unfolding until
    until_at [] j d h = refl
    until_at (x ∷ l) j d h = go (t x) j h (λ j h. until_at l j d h)
      where
        go : (b : Bool) (j : ℕ) → j < length (cond b [] (x ∷ until t l)) → ((j : ℕ) → j < length (until t l) → get_or (until t l) j d ≡ get_or l j d) → get_or (cond b [] (x ∷ until t l)) j d ≡ get_or (x ∷ l) j d
        go true j h rest = absurd (omega arith)
        go false zero h rest = refl
        go false (suc j) h rest = rest j (omega arith)
