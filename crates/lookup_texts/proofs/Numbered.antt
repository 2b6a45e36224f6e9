-- The element with a given number, and its own numbers in a list of all of them.
-- Assumes nothing.
use mathlib.Core.Path.{◌≡◌, refl, ap, ◌∙◌}
use Prim.Native.Nat.{ℕ, zero, suc, ◌+◌, ◌*◌, ◌≤◌, ◌<◌}
use native.Mathlib.Nat.{suc-mul, zero-mul}
use native.Mathlib.Omega.{arith}
use mathlib.Core.List.{List, [], ◌∷◌, ◌++◌, flat_map}
use lib.ListN.{length, get_or, take, drop, get_or-append}
use lib.Seq.{get_or-append-add, split_at}
use Rattle.lists.proofs.FlatMap.{flat_map_append}
use Rattle.lists.specs.Lists.{All}
use Rattle.lookup_texts.specs.Numbered.{numbered}

module _ {A B : Type 0} (otherwise : B) (k : A → B) where
  pub numbered_in : (xs : List A) (i : ℕ) (d : A) → i < length xs → numbered otherwise k xs i ≡ k (get_or xs i d)
  unfolding numbered
  numbered_in [] i d h = absurd (omega arith)
  numbered_in (x ∷ xs) zero d h = refl
  numbered_in (x ∷ xs) (suc i) d h = numbered_in xs i d (omega arith)

  pub numbered_past : (xs : List A) (i : ℕ) → length xs ≤ i → numbered otherwise k xs i ≡ otherwise
  unfolding numbered
  numbered_past [] i h = refl
  numbered_past (x ∷ xs) zero h = absurd (omega arith)
  numbered_past (x ∷ xs) (suc i) h = numbered_past xs i (omega arith)

  -- what holds of every answer
  pub numbered_all : (M : B → Type 0) → M otherwise → ((x : A) → M (k x)) → (xs : List A) (i : ℕ) → M (numbered otherwise k xs i)
  unfolding numbered
  numbered_all M o h [] i = o
  numbered_all M o h (x ∷ xs) zero = h x
  numbered_all M o h (x ∷ xs) (suc i) = numbered_all M o h xs i

-- ---- What each element gives, one after another

module _ {A B : Type 0} (give : A → List B) where
  -- around the element with the number i
  pub flat_map_around : (xs : List A) (i : ℕ) (d : A) → i < length xs → flat_map give xs ≡ flat_map give (take i xs) ++ (give (get_or xs i d) ++ flat_map give (drop (suc i) xs))
  unfolding flat_map
  flat_map_around xs i d h = ap (flat_map give) (split_at xs i d h) ∙ flat_map_append give (take i xs) (get_or xs i d ∷ drop (suc i) xs)

-- number j of element i, where each element has `width` numbers
pub number_at : {A : Type 0} {width : ℕ} (numbers : A → List ℕ) (xs : List A) → All (λ a. length (numbers a) ≡ width) xs → (i j : ℕ) (d : A) → i < length xs → j < width → get_or (flat_map numbers xs) (i * width + j) 0 ≡ get_or (numbers (get_or xs i d)) j 0
unfolding flat_map
number_at numbers [] u i j d h k = absurd (omega arith)
number_at {A} {width} numbers (a ∷ xs) (u, us) zero j d h k =
    let e : zero * width + j ≡ j = omega (arith, zero-mul width) in
    rw e (get_or-append (numbers a) (flat_map numbers xs) 0 j (omega arith))
number_at {A} {width} numbers (a ∷ xs) (u, us) (suc i) j d h k =
    let e : suc i * width + j ≡ length (numbers a) + (i * width + j) = omega (arith, suc-mul i width) in
    rw e (get_or-append-add (numbers a) (flat_map numbers xs) (i * width + j) 0 ∙ number_at numbers xs us i j d (omega arith) k)
