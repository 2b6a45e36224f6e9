-- Where words never fall, every row that carries a word stands before the first row with a word above it, so that a search
-- which stops there has seen them all.
-- Assumes nothing.
use mathlib.Core.Path.{◌≡◌, refl}
use mathlib.Core.Bool.{Bool, true, false, false≢true, ◌&&◌}
use Prim.Native.Nat.{ℕ, zero, suc, ◌≤◌, ◌<◌}
use native.Mathlib.Omega.{arith}
use mathlib.Core.List.{List, [], ◌∷◌}
use lib.Dec.{ltb, eqb}
use lib.ListN.{length, get_or}
use borrow.Author.Tests.{eqb-true, eqb-false, le-ltb}
use Rattle.record.specs.Tree.{Row}
use Rattle.lookup_ranges.specs.First.{until}
use Rattle.lookup_search.specs.Searches.{above_word, is_word}
use Rattle.lookup_search.proofs.Stored.{no_row}
use Rattle.profile_words.proofs.Falls.{NeverFall}

-- ---- A place up to which a test holds nowhere is before the first at which it does

until_past : {A : Type 0} (t : A → Bool) (d : A) (l : List A) (j : ℕ) → j < length l → ((i : ℕ) → i ≤ j → t (get_or l i d) ≡ false) → j < length (until t l)
unfolding until
until_past t d [] j h u = absurd (omega arith)
until_past t d (x ∷ l) zero h u = rw (u 0 (omega arith)) (omega arith)
until_past t d (x ∷ l) (suc j) h u = rw (u 0 (omega arith)) (omega (arith, until_past t d l j (omega arith) (λ i b. u (suc i) (omega arith))))

-- ---- Words

-- the row has a word, and it is that one
has_word : (word : ℕ) (r : Row) → is_word word r ≡ true → (r.word_mark ≡ 1) × (r.word ≡ word)
has_word word r e = go (eqb r.word_mark 1) refl e
  where
    go : (b : Bool) → eqb r.word_mark 1 ≡ b → (b && eqb r.word word) ≡ true → (r.word_mark ≡ 1) × (r.word ≡ word)
    go true s e = (eqb-true _ 1 s, eqb-true _ word e)
    go false s e = absurd (false≢true e)

-- a word that is there is not above the one sought
not_above : (word : ℕ) (r : Row) → (r.word_mark ≡ 1 → r.word ≤ word) → above_word word r ≡ false
not_above word r h = go (eqb r.word_mark 1) refl
  where
    go : (b : Bool) → eqb r.word_mark 1 ≡ b → (b && ltb word r.word) ≡ false
    go true s = le-ltb word r.word (h (eqb-true _ 1 s))
    go false s = refl

pub carried_before : (l : List Row) → NeverFall l → (word j : ℕ) → j < length l → is_word word (get_or l j no_row) ≡ true → j < length (until (above_word word) l)
carried_before l never word j h e = until_past (above_word word) no_row l j h (λ i b. not_above word (get_or l i no_row) (upto i b))
  where
    here : (get_or l j no_row).word ≡ word
    here = (has_word word (get_or l j no_row) e).1

    upto : (i : ℕ) → i ≤ j → (get_or l i no_row).word_mark ≡ 1 → (get_or l i no_row).word ≤ word
    upto i b m = go (eqb i j) refl
      where
        go : (same : Bool) → eqb i j ≡ same → (get_or l i no_row).word ≤ word
        go true s = rw (eqb-true i j s) (omega (arith, here))
        go false s =
            let ne : i ≡ j → ⊥ = eqb-false i j s in
            omega (arith, here, never i j (omega arith) h m (has_word word (get_or l j no_row) e).0)
