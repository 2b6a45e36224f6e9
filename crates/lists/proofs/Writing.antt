-- A stretch written after another or into one, and numbers set in a stretch that was written.
-- Assumes nothing.
use mathlib.Core.Path.{◌≡◌, refl, sym, ap, ◌∙◌, ap₂}
use Prim.Native.Nat.{ℕ, suc, ◌+◌, ◌≤◌, ◌<◌}
use native.Mathlib.Nat.{zero-add, suc-add}
use native.Mathlib.Omega.{arith}
use mathlib.Core.List.{List, [], ◌∷◌, ◌++◌}
use lib.ListN.{length, take, drop, set, length-append, length-set}
use lib.Seq.{sets, length-sets, set-append_left, drop_at, take-length, set-set, set_comm}
use Rattle.lists.proofs.Sets.{sets_over, sets_append}
use native.Mathlib.Numerals.{add-one}

-- two stretches, one after the other
pub two_sets : (l : List ℕ) (to : ℕ) (xs ys : List ℕ) {l₁ l₂ : List ℕ} {at : ℕ} → l₁ ≡ sets l to xs → at ≡ to + length xs → l₂ ≡ sets l₁ at ys → l₂ ≡ sets l to (xs ++ ys)
two_sets l to xs ys {l₁} {l₂} {at} f a s = s ∙ ap₂ (λ (m : List ℕ) (t : ℕ). sets m t ys) f a ∙ sets_append l to xs ys

-- ---- Numbers set in a stretch that was written

-- a number before the stretch
pub set_before : (l : List ℕ) (i j : ℕ) (vs : List ℕ) (v : ℕ) → j < i → set (sets l i vs) j v ≡ sets (set l j v) i vs
set_before l i j [] v h = refl
set_before l i j (x ∷ vs) v h = set_before (set l i x) (suc i) j vs v (omega arith) ∙ ap (λ (m : List ℕ). sets m (suc i) vs) (set_comm l i j x v (λ e. omega arith))

-- its first number, and its second
pub set_first : (l : List ℕ) (i x y : ℕ) (vs : List ℕ) → set (sets l i (x ∷ vs)) i y ≡ sets l i (y ∷ vs)
set_first l i x y vs = set_before (set l i x) (suc i) i vs y (omega arith) ∙ ap (λ (m : List ℕ). sets m (suc i) vs) (set-set l i x y)

pub set_second : (l : List ℕ) (i w x y : ℕ) (vs : List ℕ) → set (sets l i (w ∷ x ∷ vs)) (i + 1) y ≡ sets l i (w ∷ y ∷ vs)
set_second l i w x y vs = ap (λ (j : ℕ). set (sets l i (w ∷ x ∷ vs)) j y) (add-one i) ∙ set_first (set l i w) (suc i) x y vs

-- ---- A stretch written into a list that is put together from parts, or into a stretch

pub sets_cons : (x : ℕ) (l : List ℕ) (i : ℕ) (zs : List ℕ) → sets (x ∷ l) (suc i) zs ≡ x ∷ sets l i zs
sets_cons x l i [] = refl
sets_cons x l i (z ∷ zs) = sets_cons x (set l i z) (suc i) zs

-- into the first part
pub sets_left : (xs ys : List ℕ) (i : ℕ) (zs : List ℕ) → i + length zs ≤ length xs → sets (xs ++ ys) i zs ≡ sets xs i zs ++ ys
sets_left xs ys i [] h = refl
sets_left xs ys i (z ∷ zs) h =
    ap (λ (l : List ℕ). sets l (suc i) zs) (set-append_left xs ys i z (omega arith))
    ∙ sets_left (set xs i z) ys (suc i) zs (omega (arith, length-set xs i z))

-- into the second
pub sets_right : (xs ys : List ℕ) (i : ℕ) (zs : List ℕ) → sets (xs ++ ys) (length xs + i) zs ≡ xs ++ sets ys i zs
sets_right [] ys i zs = ap (λ (k : ℕ). sets ys k zs) (zero-add i)
sets_right (x ∷ xs) ys i zs =
    ap (λ (k : ℕ). sets (x ∷ (xs ++ ys)) k zs) (suc-add (length xs) i)
    ∙ sets_cons x (xs ++ ys) (length xs + i) zs
    ∙ ap (x ∷◌) (sets_right xs ys i zs)

-- over the whole of the first
pub sets_front : (xs ys zs : List ℕ) → length zs ≡ length xs → sets (xs ++ ys) 0 zs ≡ zs ++ ys
sets_front xs ys zs e =
    sets_over (xs ++ ys) zs (omega (arith, length-append xs ys)) ∙ ap (zs ++◌) (drop_at xs ys (length zs) (sym e))

-- a whole list copied to the front
pub sets_copied : (l xs : List ℕ) {now : List ℕ} → now ≡ sets l 0 (take (length xs) xs) → now ≡ sets l 0 xs
sets_copied l xs e = e ∙ ap (sets l 0) (take-length xs)

-- into what was written from the front on: the same is written if it was there before
pub sets_inside : (l xs : List ℕ) (i : ℕ) (zs : List ℕ) → length xs ≤ length l → i + length zs ≤ length xs → sets (sets l 0 xs) i zs ≡ sets l 0 (sets xs i zs)
sets_inside l xs i zs h k =
    let n : length (sets xs i zs) ≡ length xs = length-sets xs i zs in
    ap (λ (m : List ℕ). sets m i zs) (sets_over l xs h)
    ∙ sets_left xs (drop (length xs) l) i zs k
    ∙ ap (λ (m : ℕ). sets xs i zs ++ drop m l) (sym n)
    ∙ sym (sets_over l (sets xs i zs) (omega arith))
