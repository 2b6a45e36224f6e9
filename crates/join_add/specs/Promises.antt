-- What adding numbers asks, and what it makes.
-- Assumes nothing: these are definitions.
use Rattle.std.specs.Prelude.{◌≡◌, List, [], ◌∷◌, ℕ, ◌+◌, ◌≤◌, ◌<◌, length, get_or, set}
use Rattle.std.proofs.Math.Seq.{paste}
use Rattle.join_trees.specs.Offsets.{most_offset}

-- the numbers ds added to the numbers xs, one to one
unfoldable pub sums : List ℕ → List ℕ → List ℕ
sums [] ds = []
sums (x ∷ xs) [] = []
sums (x ∷ xs) (d ∷ ds) = (x + d) ∷ sums xs ds

-- There are enough of them, there is room, and the sums stay within 32 bits.
pub record AskAdd (src more dst : List ℕ) : Type 0 where
  pub room : length src ≡ length dst
  pub enough : length src ≤ length more
  pub sums : (k : ℕ) → k < length src → get_or src k 0 + get_or more k 0 ≤ most_offset

-- The same of m numbers of src from place `from` on, and of those of dst from `at` on.
pub record AskAddAt (src : List ℕ) (from m : ℕ) (more dst : List ℕ) (at : ℕ) : Type 0 where
  pub inside : from + m ≤ length src
  pub fits : at + m ≤ length dst
  pub enough : m ≤ length more
  pub sums : (k : ℕ) → k < m → get_or src (from + k) 0 + get_or more k 0 ≤ most_offset

-- Both have a number at k, and the sum stays within 32 bits.
pub record AskSum (src more : List ℕ) (k : ℕ) : Type 0 where
  pub inside : k < length src
  pub beside : k < length more
  pub small : get_or src k 0 + get_or more k 0 ≤ most_offset

-- the sum at k
abbrev pub sum_of : List ℕ → List ℕ → ℕ → ℕ
sum_of src more k = get_or src k 0 + get_or more k 0

-- stored in dst
abbrev pub sum_set : List ℕ → List ℕ → List ℕ → ℕ → List ℕ
sum_set src more dst k = set dst k (sum_of src more k)

-- and the four from i on
abbrev pub four_set : List ℕ → List ℕ → List ℕ → ℕ → List ℕ
four_set src more dst i = sum_set src more (sum_set src more (sum_set src more (sum_set src more dst i) (i + 1)) (i + 2)) (i + 3)

-- Where the first i sums stand, all stand after.
pub record AddsRest (src more dst : List ℕ) (i : ℕ) (after : List ℕ) : Type 0 where
  pub all : (d : List ℕ) → length d ≡ length dst → dst ≡ paste d 0 (sums src more) i → after ≡ sums src more
