-- A stretch that was written into the last part of a list, while that was lent, and one over it and all that stood before it.
-- Assumes nothing.
use mathlib.Core.Path.{◌≡◌, sym, ap, ap₂, ◌∙◌}
use mathlib.Core.List.{List, ◌++◌, append-nil}
use Prim.Native.Nat.{ℕ, ◌+◌, ◌-◌, ◌≤◌}
use native.Mathlib.Nat.{add-zero}
use native.Mathlib.Omega.{arith}
use lib.ListN.{length, take, drop, drop_of_length-le, length-drop}
use lib.Seq.{sets, length-sets, take_all}
use Rattle.lists.proofs.Sets.{sets_over}
use Rattle.lists.proofs.Written.{drop_past, sets_inside}

pub tail_written : (l xs : List ℕ) (at : ℕ) {ys : List ℕ} → ys ≡ sets (take (length l - at) (drop at l)) 0 xs → take at l ++ (ys ++ drop (length l - at) (drop at l)) ≡ sets l at xs
tail_written l xs at {ys} e =
    let n : length (drop at l) ≤ length l - at = omega (arith, length-drop at l) in
    ap₂ (λ (a b : List ℕ). take at l ++ (a ++ b)) (e ∙ ap (λ (t : List ℕ). sets t 0 xs) (take_all (length l - at) (drop at l) n)) (drop_of_length-le (drop at l) n)
    ∙ ap (take at l ++◌) (append-nil (sets (drop at l) 0 xs))
    ∙ sym (sets_inside l at 0 xs)
    ∙ ap (λ (k : ℕ). sets l k xs) (add-zero at)

-- one written over it and all that stood before it
pub sets_over_both : (l xs ys : List ℕ) (at : ℕ) → at + length xs ≤ length ys → length ys ≤ length l → sets (sets l at xs) 0 ys ≡ sets l 0 ys
sets_over_both l xs ys at h k =
    sets_over (sets l at xs) ys (omega (arith, length-sets l at xs)) ∙ ap (ys ++◌) (drop_past l at xs (length ys) h) ∙ sym (sets_over l ys k)
