-- What holds of every element of a list: of the one at a place, of parts, of what is put together, changed or repeated.
-- Assumes nothing.
use Prim.Native.Nat.{ℕ, zero, suc, ◌<◌}
use native.Mathlib.Omega.{arith}
use mathlib.Core.List.{List, [], ◌∷◌, ◌++◌, map}
use lib.ListN.{length, get_or, set, replicate}
use Rattle.lists.specs.Lists.{All}

pub all : {A : Type 0} {M : A → Type 0} (xs : List A) → ((x : A) → M x) → All M xs
all [] f = tt
all (x ∷ xs) f = (f x, all xs f)

pub all_imp : {A : Type 0} {M N : A → Type 0} (xs : List A) → ((x : A) → M x → N x) → All M xs → All N xs
all_imp [] f u = tt
all_imp (x ∷ xs) f (m, ms) = (f x m, all_imp xs f ms)

pub all_map : {A B : Type 0} (M : A → Type 0) (N : B → Type 0) (f : A → B) (xs : List A) → ((x : A) → M x → N (f x)) → All M xs → All N (map f xs)
all_map M N f [] h u = tt
all_map M N f (x ∷ xs) h (m, ms) = (h x m, all_map M N f xs h ms)

-- ---- By places

-- what holds of every element holds of the one at place i
pub all_at : {A : Type 0} (M : A → Type 0) (xs : List A) (i : ℕ) (d : A) → i < length xs → All M xs → M (get_or xs i d)
all_at M [] i d h u = absurd (omega arith)
all_at M (x ∷ xs) zero d h (m, ms) = m
all_at M (x ∷ xs) (suc i) d h (m, ms) = all_at M xs i d (omega arith) ms

-- and what holds at every place holds of every element
pub all_places : {A : Type 0} (M : A → Type 0) (d : A) (xs : List A) → ((i : ℕ) → i < length xs → M (get_or xs i d)) → All M xs
all_places M d [] h = tt
all_places M d (x ∷ xs) h = (h 0 (omega arith), all_places M d xs (λ i l. h (suc i) (omega arith)))

-- ---- Put together, changed, repeated

pub all_append : {A : Type 0} (M : A → Type 0) (xs ys : List A) → All M xs → All M ys → All M (xs ++ ys)
all_append M [] ys u v = v
all_append M (x ∷ xs) ys (m, ms) v = (m, all_append M xs ys ms v)

pub all_split : {A : Type 0} (M : A → Type 0) (xs ys : List A) → All M (xs ++ ys) → All M xs × All M ys
all_split M [] ys u = (tt, u)
all_split M (x ∷ xs) ys (m, ms) = let p = all_split M xs ys ms in ((m, p.0), p.1)

pub all_set : {A : Type 0} (M : A → Type 0) (xs : List A) (k : ℕ) (y : A) → All M xs → M y → All M (set xs k y)
all_set M [] k y u m = tt
all_set M (x ∷ xs) zero y (u, us) m = (m, us)
all_set M (x ∷ xs) (suc k) y (u, us) m = (u, all_set M xs k y us m)

pub all_replicate : {A : Type 0} (M : A → Type 0) (n : ℕ) (a : A) → M a → All M (replicate n a)
all_replicate M zero a m = tt
all_replicate M (suc n) a m = (m, all_replicate M n a m)

pub all_first : {A : Type 0} (M : A → Type 0) (xs ys : List A) → All M (xs ++ ys) → All M xs
all_first M [] ys u = tt
all_first M (x ∷ xs) ys (m, ms) = (m, all_first M xs ys ms)

pub all_last : {A : Type 0} (M : A → Type 0) (xs ys : List A) → All M (xs ++ ys) → All M ys
all_last M [] ys u = u
all_last M (x ∷ xs) ys (m, ms) = all_last M xs ys ms
