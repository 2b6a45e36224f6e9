-- The last word that is present, row after row. Assumes nothing.
use mathlib.Core.Path.{◌≡◌, refl, sym, ap, ◌∙◌}
use mathlib.Core.Bool.{Bool, true, false, ◌&&◌, cond}
use mathlib.Core.Option.{Option, none as nothing, some}
use Prim.Native.Nat.{ℕ, suc, ◌+◌, ◌-◌, ◌≤◌, ◌<◌}
use native.Mathlib.Omega.{arith}
use mathlib.Core.List.{List, [], ◌∷◌, ◌++◌}
use lib.Dec.{eqb, ltb}
use lib.ListN.{length, get_or, take, drop, length-drop}
use lib.Seq.{take-suc, get_or-drop}
use borrow.Author.Tests.{le-ltb}
use Rattle.record.specs.Tree.{Row}
use Rattle.lookup_ranges.specs.First.{or_else, part}
use Rattle.profile_trees.specs.Rules.{last_word, below_last}
use Rattle.profile_row.specs.Promises.{word_after}

-- 0 stands for none
abbrev pub last_or : Option ℕ → ℕ
last_or nothing = 0
last_or (some word) = word

-- nothing is below 0
pub below_last_lem : (o : Option ℕ) (r : Row) → below_last o r ≡ (eqb r.word_mark 1 && ltb r.word (last_or o))
below_last_lem nothing r = rw (le-ltb r.word 0 (omega arith)) (go (eqb r.word_mark 1))
  where
    go : (b : Bool) → false ≡ (b && false)
    go true = refl
    go false = refl
below_last_lem (some word) r = refl

-- ---- One row more

last_more : (s : List Row) (r : Row) → last_word (s ++ (r ∷ [])) ≡ cond (eqb r.word_mark 1) (some r.word) (last_word s)
unfolding last_word
last_more [] r = refl
last_more (p ∷ s) r = rw (last_more s r) (go (eqb r.word_mark 1))
  where
    go : (b : Bool) → or_else (cond b (some r.word) (last_word s)) (cond (eqb p.word_mark 1) (some p.word) nothing) ≡ cond b (some r.word) (or_else (last_word s) (cond (eqb p.word_mark 1) (some p.word) nothing))
    go true = refl
    go false = refl

module _ {A : Type 0} where
  pub part_none : (start : ℕ) (l : List A) → part start start l ≡ []
  part_none start l = let none : start - start ≡ 0 = omega arith in ap (λ (n : ℕ). take n (drop start l)) none

  part_more : (start row : ℕ) (l : List A) (d : A) → start ≤ row → row < length l → part start (row + 1) l ≡ part start row l ++ (get_or l row d ∷ [])
  part_more start row l d a b =
      let more : row + 1 - start ≡ suc (row - start) = omega arith in
      let back : start + (row - start) ≡ row = omega arith in
      ap (λ (n : ℕ). take n (drop start l)) more
      ∙ take-suc (drop start l) (row - start) d (simp length-drop (omega arith))
      ∙ ap (λ (x : A). part start row l ++ (x ∷ [])) (get_or-drop start l (row - start) d ∙ ap (λ (n : ℕ). get_or l n d) back)

pub last_none : (start : ℕ) (l : List Row) → 0 ≡ last_or (last_word (part start start l))
unfolding last_word
last_none start l = rw (part_none start l)

pub last_next : (start row : ℕ) (l : List Row) (d : Row) → start ≤ row → row < length l
    → word_after (get_or l row d).word_mark (get_or l row d).word (last_or (last_word (part start row l))) ≡ last_or (last_word (part start (row + 1) l))
last_next start row l d a b = go (eqb (get_or l row d).word_mark 1) ∙ ap last_or (sym (ap last_word (part_more start row l d a b) ∙ last_more (part start row l) (get_or l row d)))
  where
    go : (t : Bool) → cond t (get_or l row d).word (last_or (last_word (part start row l))) ≡ last_or (cond t (some (get_or l row d).word) (last_word (part start row l)))
    go true = refl
    go false = refl
