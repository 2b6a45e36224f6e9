-- Numbers that are written over others in place: one, and a stretch.
-- Assumes nothing.
use mathlib.Core.Path.{◌≡◌, refl, sym, ap, ap₂, ◌∙◌}
use mathlib.Core.List.{List, [], ◌∷◌, ◌++◌, append_assoc}
use Prim.Native.Nat.{ℕ, suc, ◌+◌, ◌≤◌, ◌<◌}
use native.Mathlib.Nat.{add-zero, add-suc}
use native.Mathlib.Omega.{arith}
use lib.ListN.{length, get_or, take, drop, set, length-append, take-append-drop, get_or-append}
use lib.Seq.{sets, sets-eq, length-sets, take-set-le, drop-set-lt, drop-set-add, drop_at, length-take-le, get_or-drop, take_at}
use Rattle.lists.specs.Stretch.{Stretch}
use Rattle.lists.proofs.Sets.{sets_over}

-- ---- A list by its two parts at a place

-- a number k places after i
pub set_inside : (l : List ℕ) (i k v : ℕ) → set l (i + k) v ≡ take i l ++ set (drop i l) k v
set_inside l i k v =
    sym (take-append-drop i (set l (i + k) v)) ∙ ap₂ ◌++◌ (take-set-le i l (i + k) v (omega arith)) (drop-set-add i l k v)

-- what stands before a stretch that is written, and after it, is as it was
take_before : (l : List ℕ) (i : ℕ) (zs : List ℕ) (n : ℕ) → n ≤ i → take n (sets l i zs) ≡ take n l
take_before l i [] n h = refl
take_before l i (z ∷ zs) n h = take_before (set l i z) (suc i) zs n (omega arith) ∙ take-set-le n l i z h

pub drop_past : (l : List ℕ) (i : ℕ) (zs : List ℕ) (n : ℕ) → i + length zs ≤ n → drop n (sets l i zs) ≡ drop n l
drop_past l i [] n h = refl
drop_past l i (z ∷ zs) n h = drop_past (set l i z) (suc i) zs n (omega arith) ∙ drop-set-lt n l i z (omega arith)

-- a stretch from k places after i on
pub sets_inside : (l : List ℕ) (i k : ℕ) (zs : List ℕ) → sets l (i + k) zs ≡ take i l ++ sets (drop i l) k zs
sets_inside l i k zs = sym (take-append-drop i (sets l (i + k) zs)) ∙ ap₂ ◌++◌ (take_before l (i + k) zs i (omega arith)) (after l k zs)
  where
    after : (l : List ℕ) (k : ℕ) (zs : List ℕ) → drop i (sets l (i + k) zs) ≡ sets (drop i l) k zs
    after l k [] = refl
    after l k (z ∷ zs) =
        ap (λ (n : ℕ). drop i (sets (set l (i + k) z) n zs)) (sym (add-suc i k))
        ∙ after (set l (i + k) z) (suc k) zs
        ∙ ap (λ (m : List ℕ). sets m (suc k) zs) (drop-set-add i l k z)

-- ---- A stretch that stands somewhere

module _ {l : List ℕ} {i : ℕ} {xs : List ℕ} (h : Stretch l i xs) where
  pub stands_number : (k : ℕ) → k < length xs → get_or l (i + k) 0 ≡ get_or xs k 0
  stands_number k b = sym (get_or-drop i l k 0) ∙ ap (λ (m : List ℕ). get_or m k 0) h.is ∙ get_or-append xs h.rest 0 k b

  -- another written over it
  pub stands_over : (ys : List ℕ) → length ys ≡ length xs → sets l i ys ≡ take i l ++ (ys ++ h.rest)
  stands_over ys e =
      ap (λ (n : ℕ). sets l n ys) (sym (add-zero i)) ∙ sets_inside l i 0 ys ∙ ap (take i l ++◌) (ap (λ (m : List ℕ). sets m 0 ys) h.is ∙ over h.rest)
    where
      over : (rest : List ℕ) → sets (xs ++ rest) 0 ys ≡ ys ++ rest
      over rest = sets_over (xs ++ rest) ys (omega (arith, length-append xs rest)) ∙ ap (ys ++◌) (drop_at xs rest (length ys) (sym e))

  -- itself written over it
  pub stands_same : sets l i xs ≡ l
  stands_same = stands_over xs refl ∙ ap (take i l ++◌) (sym h.is) ∙ take-append-drop i l

-- its first number
pub stands_first : {l : List ℕ} {i x : ℕ} {xs : List ℕ} → Stretch l i (x ∷ xs) → get_or l i 0 ≡ x
stands_first {l} {i} h = ap (λ (k : ℕ). get_or l k 0) (sym (add-zero i)) ∙ stands_number h 0 (omega arith)

-- what was written stands there
pub sets_stand : (l : List ℕ) (i : ℕ) (zs : List ℕ) → i + length zs ≤ length l → Stretch (sets l i zs) i zs
sets_stand l i zs h =
    record { rest = drop (i + length zs) l; is = ap (drop i) (sets-eq zs l i h ∙ append_assoc (take i l) zs (drop (i + length zs) l)) ∙ drop_at (take i l) _ i (length-take-le i l (omega arith)) }

-- and may be written over by a stretch that is no shorter
pub sets_again : (l : List ℕ) (i : ℕ) (xs ys : List ℕ) → length xs ≤ length ys → i + length ys ≤ length l → sets (sets l i xs) i ys ≡ sets l i ys
sets_again l i xs ys e h =
    sets-eq ys (sets l i xs) i (omega (arith, length-sets l i xs))
    ∙ ap₂ (λ (a b : List ℕ). a ++ ys ++ b) (take_before l i xs i (omega arith)) (drop_past l i xs (i + length ys) (omega arith))
    ∙ sym (sets-eq ys l i h)

-- what was written from the front on, taken out again
pub taken_back : (l xs : List ℕ) (n : ℕ) → length xs ≤ length l → length xs ≡ n → take n (drop 0 (sets l 0 xs)) ≡ xs
taken_back l xs n a e = ap (take n) (sets_over l xs a) ∙ take_at xs (drop (length xs) l) n e
