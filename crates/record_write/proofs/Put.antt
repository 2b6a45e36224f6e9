-- The numbers of a range, stored one by one where they belong.
-- Assumes nothing.
use mathlib.Core.Path.{◌≡◌, refl, ap, ◌∙◌}
use Prim.Native.Nat.{ℕ, suc, ◌+◌}
use native.Mathlib.Nat.{add-suc}
use native.Mathlib.Numerals.{add-one}
use mathlib.Core.List.{List, [], ◌∷◌}
use lib.ListN.{set}
use lib.Seq.{sets}

-- the first of xs goes to at + k, the next to at + (k + 1), as straight-line code has it
abbrev pub puts : List ℕ → ℕ → ℕ → List ℕ → List ℕ
puts l at k [] = l
puts l at k (x ∷ xs) = puts (set l (at + k) x) at (suc k) xs

pub puts_sets : (l : List ℕ) (at k : ℕ) (xs : List ℕ) → puts l at k xs ≡ sets l (at + k) xs
puts_sets l at k [] = refl
puts_sets l at k (x ∷ xs) = puts_sets (set l (at + k) x) at (suc k) xs ∙ ap (λ (n : ℕ). sets (set l (at + k) x) n xs) (add-suc at k)

-- the first at `at` itself, the others from at + 1 on
pub puts_after : (l : List ℕ) (at x : ℕ) (xs : List ℕ) → puts (set l at x) at 1 xs ≡ sets l at (x ∷ xs)
puts_after l at x xs = puts_sets (set l at x) at 1 xs ∙ ap (λ (n : ℕ). sets (set l at x) n xs) (add-one at)
