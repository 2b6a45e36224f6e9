-- The matches of a word, row by row: those seen, and those still ahead.
-- Assumes nothing.
use mathlib.Core.Path.{◌≡◌, refl}
use Prim.Native.Nat.{ℕ, suc, ◌+◌}
use native.Mathlib.Omega.{arith}
use mathlib.Core.Bool.{Bool, true, false, cond}
use mathlib.Core.Option.{Option, none as nothing, some}
use mathlib.Core.List.{List, [], ◌∷◌}
use lib.Dec.{eqb}
use borrow.Author.Tests.{ne_eqb}
use Rattle.record.specs.Tree.{Row}
use Rattle.lookup_ranges.specs.First.{first_from, last_from, until}
use Rattle.record.specs.declared.Bounds.{Bounds}
use Rattle.lookup_search.specs.Searches.{above_word, is_word, word_rows}
use Rattle.lookup_search.specs.Promises.{matched}

-- ---- The first and the last match

-- A list has neither, or both.
pub data Ends {A : Type 0} (t : A → Bool) (n : ℕ) (l : List A) : Type 0 where
  neither : first_from t n l ≡ nothing → last_from t n l ≡ nothing → Ends t n l
  both : (a b : ℕ) → first_from t n l ≡ some a → last_from t n l ≡ some b → Ends t n l

pub ends : {A : Type 0} (t : A → Bool) (n : ℕ) (l : List A) → Ends t n l
unfolding first_from last_from
ends t n [] = neither refl refl
ends t n (x ∷ l) = go (t x) refl (ends t (suc n) l)
  where
    go : (b : Bool) → t x ≡ b → Ends t (suc n) l → Ends t n (x ∷ l)
    go true e (neither p q) = both n n (rw (first_from, e)) (rw (last_from, e, q))
    go true e (both a b p q) = both n b (rw (first_from, e)) (rw (last_from, e, q))
    go false e (neither p q) = neither (rw (first_from, e, p)) (rw (last_from, e, q))
    go false e (both a b p q) = both a b (rw (first_from, e, p)) (rw (last_from, e, q))

-- ---- Seen and ahead

-- from the first of what is seen to the last of what is ahead
abbrev pub grown : Option Bounds → Option Bounds → Option Bounds
grown nothing ahead = ahead
grown (some b) nothing = some b
grown (some b) (some c) = some (record { start = b.start; end = c.end })

pub grown_nothing : (o : Option Bounds) → grown o nothing ≡ o
grown_nothing nothing = refl
grown_nothing (some b) = refl

-- row i
abbrev pub single : ℕ → Option Bounds
single i = some (record { start = i; end = i + 1 })

pub grown_single : (o ahead : Option Bounds) (i : ℕ) → grown (grown o (single i)) ahead ≡ grown o (grown (single i) ahead)
grown_single nothing ahead i = refl
grown_single (some b) nothing i = refl
grown_single (some b) (some c) i = refl

pub matched_single : (first after i : ℕ) → grown (matched first after) (single i) ≡ matched (cond (eqb after 0) i first) (i + 1)
matched_single first after i = rw (ne_eqb (i + 1) 0 (λ e. omega arith)) (go (eqb after 0))
  where
    go : (b : Bool) → grown (cond b nothing (some (record { start = first; end = after }))) (single i) ≡ some (record { start = cond b i first; end = i + 1 })
    go true = refl
    go false = refl

-- ---- One step

module _ (w : ℕ) (x : Row) (i : ℕ) (l : List Row) where
  pub step_above : above_word w x ≡ true → word_rows w i (x ∷ l) ≡ nothing
  unfolding word_rows until first_from
  step_above e = rw (until, e)

  pub step_other : above_word w x ≡ false → is_word w x ≡ false → word_rows w i (x ∷ l) ≡ word_rows w (suc i) l
  unfolding word_rows until first_from last_from
  step_other e o = go (ends (is_word w) (suc i) (until (above_word w) l))
    where
      go : Ends (is_word w) (suc i) (until (above_word w) l) → word_rows w i (x ∷ l) ≡ word_rows w (suc i) l
      go (neither p q) = rw (until, e, first_from, o, p)
      go (both a b p q) = rw (until, e, first_from, o, last_from, p, q)

  pub step_match : above_word w x ≡ false → is_word w x ≡ true → word_rows w i (x ∷ l) ≡ grown (single i) (word_rows w (suc i) l)
  unfolding word_rows until first_from last_from
  step_match e o = go (ends (is_word w) (suc i) (until (above_word w) l))
    where
      go : Ends (is_word w) (suc i) (until (above_word w) l) → word_rows w i (x ∷ l) ≡ grown (single i) (word_rows w (suc i) l)
      go (neither p q) = rw (until, e, first_from, o, last_from, p, q)
      go (both a b p q) = rw (until, e, first_from, o, last_from, p, q)
