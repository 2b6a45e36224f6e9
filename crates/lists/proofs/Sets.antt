-- Stretches of numbers written into a list: one after another, and a part that was lent and has come back.
-- Assumes nothing.
use mathlib.Core.Path.{◌≡◌, ap, sym, ◌∙◌}
use Prim.Native.Nat.{ℕ, suc, ◌+◌, ◌-◌, ◌≤◌, ◌<◌}
use native.Mathlib.Nat.{add-zero, add-suc, suc-add}
use native.Mathlib.Numerals.{add-one}
use native.Mathlib.Omega.{arith}
use mathlib.Core.List.{List, [], ◌∷◌, ◌++◌, append_assoc, append-nil}
use lib.ListN.{length, get_or, take, drop, set, drop_of_length-le}
use lib.Seq.{sets, sets-eq, paste, paste-suc, take_all, drop-drop}

pub sets_append : (l : List ℕ) (i : ℕ) (xs ys : List ℕ) → sets (sets l i xs) (i + length xs) ys ≡ sets l i (xs ++ ys)
sets_append l i [] ys = rw add-zero
sets_append l i (x ∷ xs) ys = rw (add-suc, ← suc-add i (length xs)) (sets_append (set l i x) (suc i) xs ys)

-- n elements of l from `at` on were lent, and came back as zs
pub sets_part : (l ys zs : List ℕ) (at n : ℕ) → at + n ≤ length l → length zs ≡ n → ys ≡ zs → take at l ++ (ys ++ drop (at + n - at) (drop at l)) ≡ sets l at zs
sets_part l ys zs at n h e s =
    let k : at + n - at ≡ length zs = omega arith in
    rw (k, s, drop-drop) (sym (sets-eq zs l at (omega arith) ∙ append_assoc (take at l) zs (drop (at + length zs) l)))

-- a list written from its front on, as far as it goes
pub sets_over : (l xs : List ℕ) → length xs ≤ length l → sets l 0 xs ≡ xs ++ drop (length xs) l
sets_over l xs h =
    let z : 0 + length xs ≡ length xs = omega arith in
    sets-eq xs l 0 (omega arith) ∙ ap (λ (k : ℕ). xs ++ drop k l) z

-- ---- One turn of a copy from the start of both lists, and its end

pub copy_turn : (d s : List ℕ) (i : ℕ) → i < length d → i < length s → set (paste d 0 s i) i (get_or s i 0) ≡ paste d 0 s (i + 1)
copy_turn d s i hd hs =
    let z : 0 + i ≡ i = omega arith in
    ap (λ (k : ℕ). set (paste d 0 s i) k (get_or s i 0)) (sym z)
    ∙ paste-suc d 0 s i 0 (omega arith) hs
    ∙ ap (paste d 0 s) (sym (add-one i))

pub copy_all : (d s : List ℕ) (i : ℕ) → length s ≡ length d → i ≡ length s → paste d 0 s i ≡ s
copy_all d s i e h =
    let a : length s ≤ i = omega arith in
    let b : length d ≤ 0 + i = omega arith in
    ap (λ (r : List ℕ). r ++ drop (0 + i) d) (take_all i s a) ∙ ap (λ (r : List ℕ). s ++ r) (drop_of_length-le d b) ∙ append-nil s
