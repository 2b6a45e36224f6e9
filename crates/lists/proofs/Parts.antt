-- What holds of each element holds of those taken, of those left, and of the one with a given number.
-- Assumes nothing.
use Prim.Native.Nat.{ℕ, zero, suc, ◌<◌}
use native.Mathlib.Omega.{arith}
use mathlib.Core.List.{List, [], ◌∷◌}
use lib.ListN.{length, get_or, take, drop}
use Rattle.lists.specs.Lists.{All}

module _ {A : Type 0} (M : A → Type 0) where
  pub all_take : (i : ℕ) (l : List A) → All M l → All M (take i l)
  all_take zero l h = tt
  all_take (suc i) [] h = tt
  all_take (suc i) (x ∷ l) (h, hs) = (h, all_take i l hs)

  pub all_drop : (i : ℕ) (l : List A) → All M l → All M (drop i l)
  all_drop zero l h = h
  all_drop (suc i) [] h = tt
  all_drop (suc i) (x ∷ l) (h, hs) = all_drop i l hs

  pub all_get : (i : ℕ) (d : A) (l : List A) → i < length l → All M l → M (get_or l i d)
  all_get i d [] k h = absurd (omega arith)
  all_get zero d (x ∷ l) k (h, hs) = h
  all_get (suc i) d (x ∷ l) k (h, hs) = all_get i d l (omega arith) hs
