-- Where the sixth rule is not broken, words never fall: of two rows of a range, or of a record without ranges, that have a word
-- the earlier has the lower one or both have the same.
-- Assumes nothing.
use mathlib.Core.Path.{◌≡◌, refl, sym, ap, ◌∙◌}
use mathlib.Core.Bool.{Bool, true, false, false≢true, ◌||◌, cond}
use mathlib.Core.Logic.{inl, inr}
use mathlib.Core.Option.{Option, none as nothing, some}
use Prim.Native.Nat.{ℕ, zero, suc, ◌+◌, ◌-◌, ◌≤◌, ◌<◌}
use native.Mathlib.Omega.{arith}
use mathlib.Core.List.{List, [], ◌∷◌, ◌++◌}
use lib.Dec.{eqb}
use lib.ListN.{length, get_or, take, drop}
use lib.Seq.{take-suc, take-take}
use borrow.Author.Tests.{eqb-true, eqb-false, eq-eqb, ne_eqb, le-leb, lt-ltb, ltb-false}
use Rattle.record.specs.Tree.{Row, Range, Encoding, absent}
use Rattle.record.specs.Read.{read}
use Rattle.record.specs.Standing.{One}
use Rattle.lookup_ranges.specs.First.{or_else}
use Rattle.lookup_ranges.specs.Ranges.{sequence_range, present}
use Rattle.lookup_ranges.proofs.Ranges.{range_within}
use Rattle.lookup_search.specs.Searches.{in_range}
use Rattle.lookup_search.proofs.Stored.{no_row}
use Rattle.lookup_search.proofs.Parts.{there, part_at}
use Rattle.lookup_search.proofs.InRange.{length_in_range}
use Rattle.profile_trees.specs.Rules.{last_word, below_last, falls_from, any_range, falls_within, word_falls}
use Rattle.profile_trees.specs.Profile.{profile_answer}
use Rattle.std.specs.Prelude.{Ok, None}
use Rattle.profile_words.specs.Lookup.{Asked}
use Rattle.profile_words.proofs.Unbroken.{top, words_hold}

-- ---- The last word before a row

-- the word of a row, if it has one
abbrev word_of : Row → Option ℕ
word_of r = cond (eqb r.word_mark 1) (some r.word) nothing

last_word_more : (rs : List Row) (r : Row) → last_word (rs ++ (r ∷ [])) ≡ or_else (word_of r) (last_word rs)
unfolding last_word
last_word_more [] r = go (eqb r.word_mark 1)
  where
    go : (b : Bool) → cond b (some r.word) nothing ≡ or_else (cond b (some r.word) nothing) nothing
    go true = refl
    go false = refl
last_word_more (x ∷ rs) r = ap (λ (o : Option ℕ). or_else o (word_of x)) (last_word_more rs r) ∙ go (eqb r.word_mark 1)
  where
    go : (b : Bool) → or_else (or_else (cond b (some r.word) nothing) (last_word rs)) (word_of x) ≡ or_else (cond b (some r.word) nothing) (or_else (last_word rs) (word_of x))
    go true = refl
    go false = refl

-- there is a last word, and it is at least a
abbrev AtLeast : ℕ → Option ℕ → Type 0
AtLeast a nothing = ⊥
AtLeast a (some last) = a ≤ last

-- a word that is not below the last is at least what the last is
not_below : (a : ℕ) (o : Option ℕ) (r : Row) → AtLeast a o → r.word_mark ≡ 1 → below_last o r ≡ false → a ≤ r.word
not_below a nothing r h m e = absurd h
not_below a (some last) r h m e = omega (arith, ltb-false r.word last (rw (eq-eqb r.word_mark 1 m) at e))

-- ---- Words that never fall

-- of two rows that have a word the earlier has no higher one
abbrev pub NeverFall : List Row → Type 0
NeverFall l = (j k : ℕ) → j < k → k < length l → (get_or l j no_row).word_mark ≡ 1 → (get_or l k no_row).word_mark ≡ 1 → (get_or l j no_row).word ≤ (get_or l k no_row).word

module _ (l : List Row) (step : (i : ℕ) → i < length l → below_last (last_word (take i l)) (get_or l i no_row) ≡ false) where
  -- the last word before row i is at least each one before it
  last_at_least : (i : ℕ) → i ≤ length l → (j : ℕ) → j < i → (get_or l j no_row).word_mark ≡ 1 → AtLeast (get_or l j no_row).word (last_word (take i l))
  last_at_least zero h j b m = absurd (omega arith)
  last_at_least (suc i) h j b m = rw (take-suc l i no_row (omega arith), last_word_more) (go (eqb (get_or l i no_row).word_mark 1) refl (eqb j i) refl (last_at_least i (omega arith) j))
    where
      go : (b : Bool) → eqb (get_or l i no_row).word_mark 1 ≡ b → (same : Bool) → eqb j i ≡ same → (j < i → (get_or l j no_row).word_mark ≡ 1 → AtLeast (get_or l j no_row).word (last_word (take i l))) → AtLeast (get_or l j no_row).word (or_else (cond b (some (get_or l i no_row).word) nothing) (last_word (take i l)))
      go true s true t rest = rw (eqb-true j i t) (omega arith)
      go true s false t rest =
          let ne : j ≡ i → ⊥ = eqb-false j i t in
          not_below (get_or l j no_row).word (last_word (take i l)) (get_or l i no_row) (rest (omega arith) m) (eqb-true _ 1 s) (step i (omega arith))
      go false s true t rest = absurd (eqb-false _ 1 s (rw (eqb-true j i t) at m))
      go false s false t rest =
          let ne : j ≡ i → ⊥ = eqb-false j i t in
          rest (omega arith) m

  never_fall : NeverFall l
  never_fall j k b h m n = not_below (get_or l j no_row).word (last_word (take k l)) (get_or l k no_row) (last_at_least k (omega arith) j b m) n (step k h)

-- ---- The sixth rule at the rows that are asked

-- no ranges are there where none is counted
none_present : (ps : List Range) (k : ℕ) → present ps ≡ 0 → (get_or ps k absent).present ≡ 0
unfolding present
none_present [] k e = refl
none_present (p ∷ ps) zero e = omega arith
none_present (p ∷ ps) (suc k) e = none_present ps k (omega arith)

-- what is so of no range is not so of one that is there
none_of : (t : Range → Bool) (ps : List Range) (k : ℕ) → any_range t ps ≡ false → (get_or ps k absent).present ≡ 1 → t (get_or ps k absent) ≡ false
none_of t [] k e m = absurd (omega arith)
none_of t (p ∷ ps) k e m = go (t p) refl e k m (λ k e m. none_of t ps k e m)
  where
    go : (b : Bool) → t p ≡ b → (b || any_range t ps) ≡ false → (k : ℕ) → (get_or (p ∷ ps) k absent).present ≡ 1 → ((k : ℕ) → any_range t ps ≡ false → (get_or ps k absent).present ≡ 1 → t (get_or ps k absent) ≡ false) → t (get_or (p ∷ ps) k absent) ≡ false
    go true s e k m rest = absurd (false≢true (sym e))
    go false s e zero m rest = s
    go false s e (suc k) m rest = rest k e m

module _ (E : Encoding) (id row : ℕ) where
  asked_falls : Asked E id → word_falls (top E) row ≡ false → (sequence_range E id).start ≤ row → row < (sequence_range E id).end → falls_from (sequence_range E id).start (top E) row ≡ false
  unfolding word_falls sequence_range
  asked_falls (inr n) e a b = rw (none_present E.ranges id n) (rw (eq-eqb (present E.ranges) 0 n) at e)
  asked_falls (inl m) e a b =
      let p : Range = get_or E.ranges id absent in
      let there : eqb p.present 1 ≡ true = eq-eqb p.present 1 m in
      let from : p.start ≤ row = rw there at a in
      let to : row < p.end = rw there at b in
      let some_there : eqb (present E.ranges) 0 ≡ false = ne_eqb (present E.ranges) 0 (λ (n : present E.ranges ≡ 0). omega (arith, none_present E.ranges id n)) in
      let each : falls_within (top E) row p ≡ false = none_of (falls_within (top E) row) E.ranges id (rw some_there at e) m in
      rw there (rw (there, le-leb p.start row from, lt-ltb row p.end to) at each)

-- ---- So words never fall there

pub words_never_fall : {nodes rows : List ℕ} {E : Encoding} → One nodes rows E → profile_answer (read nodes rows) ≡ Ok None → (id : ℕ) → Asked E id → NeverFall (in_range E id)
unfolding falls_from
words_never_fall {nodes} {rows} {E} one passes id asked = never_fall (in_range E id) step
  where
    step : (i : ℕ) → i < length (in_range E id) → below_last (last_word (take i (in_range E id))) (get_or (in_range E id) i no_row) ≡ false
    step i h =
        let s : ℕ = (sequence_range E id).start in
        let e : ℕ = (sequence_range E id).end in
        let to : s + i < e = omega (arith, length_in_range one id) in
        let inside : s + i < length E.rows = omega (arith, (range_within one id).1) in
        let back : s + i - s ≡ i = omega arith in
        let holds : falls_from s (top E) (s + i) ≡ false = asked_falls E id (s + i) asked (words_hold one passes (s + i)) (omega arith) to in
        rw (take-take i (e - s) (drop s E.rows) (omega arith), part_at s e E.rows i no_row (omega arith))
        (rw (there E.rows (s + i) no_row inside, back) at holds)
