-- The walk that finds a word's rows: what it has seen so far, and what is still ahead.
-- Assumes nothing.
use mathlib.Core.Path.{◌≡◌, refl, sym, ap, ◌∙◌}
use Prim.Native.Nat.{ℕ, ◌+◌, ◌*◌, ◌≤◌, ◌<◌}
use native.Mathlib.Numerals.{add-one}
use native.Mathlib.Omega.{arith}
use mathlib.Core.Bool.{false, cond}
use mathlib.Core.Option.{Option}
use mathlib.Core.List.{List}
use lib.Dec.{eqb}
use lib.ListN.{length, get_or}
use borrow.Author.Tests.{eq-eqb, ne_eqb, lt-ltb, le-ltb}
use Rattle.record.specs.Tree.{Row}
use Rattle.record.specs.Flat.{row_width}
use Rattle.record.specs.Standing.{RowsAt}
use Rattle.lookup_ranges.specs.First.{first_from, until, part}
use Rattle.record.specs.declared.Bounds.{Bounds}
use Rattle.lookup_search.specs.Searches.{above_word, is_word, word_rows}
use Rattle.lookup_search.specs.Promises.{OfRows, matched, at_word_mark, at_word}
use Rattle.lookup_search.proofs.Search.{part_end, part_cons}
use Rattle.lookup_search.proofs.Stored.{no_row, stored_word_mark, stored_word}
use Rattle.lookup_search.proofs.Matches.{grown, grown_nothing, single, grown_single, matched_single, step_above, step_other, step_match}

-- ---- The walk over the stored rows, from `start` up to, not including, `e`

-- What it has seen before row i: the matches from first up to after.
pub record Walked (rows : List ℕ) (w start e first after i : ℕ) : Type 0 where
  pub so : OfRows rows e (λ l. word_rows w start (part start e l) ≡ grown (matched first after) (word_rows w i (part i e l)))

pub walked_start : (rows : List ℕ) (w start e : ℕ) → Walked rows w start e 0 0 start
walked_start rows w start e = record { so = λ l h k. refl }

module _ (rows : List ℕ) (w start e first after i : ℕ) (walked : Walked rows w start e first after i) where
  pub walked_end : e ≤ i → OfRows rows e (λ l. word_rows w start (part start e l) ≡ matched first after)
  unfolding word_rows first_from until
  walked_end x = λ l h k. walked.so l h k ∙ rw (part_end l i e x) (grown_nothing (matched first after))

  walked_other : (l : List Row) → RowsAt rows 0 l → e ≤ length l → i < e → above_word w (get_or l i no_row) ≡ false → is_word w (get_or l i no_row) ≡ false → word_rows w start (part start e l) ≡ grown (matched first after) (word_rows w (i + 1) (part (i + 1) e l))
  walked_other l h k x a m =
      walked.so l h k
      ∙ ap (λ (p : List Row). grown (matched first after) (word_rows w i p)) (part_cons l i e no_row x k)
      ∙ ap (grown (matched first after)) (step_other w (get_or l i no_row) i (part (i + 1) e l) a m ∙ ap (λ (n : ℕ). word_rows w n (part (i + 1) e l)) (sym (add-one i)))

  -- a row without a word
  pub walked_none : i < e → (get_or rows (i * row_width + at_word_mark) 0 ≡ 1 → ⊥) → Walked rows w start e first after (i + 1)
  walked_none x m = record {
    so = λ l h k.
        let y : i < length l = omega arith in
        let mark = ne_eqb (get_or l i no_row).word_mark 1 (λ o. m (stored_word_mark h i y ∙ o)) in
        walked_other l h k x (rw mark) (rw mark);
  }

  -- a row of a lower word
  pub walked_below : i < e → get_or rows (i * row_width + at_word_mark) 0 ≡ 1 → get_or rows (i * row_width + at_word) 0 ≤ w → (get_or rows (i * row_width + at_word) 0 ≡ w → ⊥) → Walked rows w start e first after (i + 1)
  walked_below x m b n = record {
    so = λ l h k.
        let y : i < length l = omega arith in
        let mark = eq-eqb (get_or l i no_row).word_mark 1 (sym (stored_word_mark h i y) ∙ m) in
        let low = le-ltb w (get_or l i no_row).word (omega (arith, stored_word h i y)) in
        let other = ne_eqb (get_or l i no_row).word w (λ o. n (stored_word h i y ∙ o)) in
        walked_other l h k x (rw (mark, low)) (rw (mark, other));
  }

  -- a row of the word
  pub walked_match : i < e → get_or rows (i * row_width + at_word_mark) 0 ≡ 1 → get_or rows (i * row_width + at_word) 0 ≡ w → Walked rows w start e (cond (eqb after 0) i first) (i + 1) (i + 1)
  walked_match x m n = record {
    so = λ l h k.
        let y : i < length l = omega arith in
        let r = get_or l i no_row in
        let mark = eq-eqb r.word_mark 1 (sym (stored_word_mark h i y) ∙ m) in
        let low = le-ltb w r.word (omega (arith, stored_word h i y)) in
        let same = eq-eqb r.word w (sym (stored_word h i y) ∙ n) in
        let ahead = word_rows w (i + 1) (part (i + 1) e l) in
        walked.so l h k
        ∙ ap (λ (p : List Row). grown (matched first after) (word_rows w i p)) (part_cons l i e no_row x k)
        ∙ ap (grown (matched first after)) (step_match w r i (part (i + 1) e l) (rw (mark, low)) (rw (mark, same)) ∙ ap (λ (n : ℕ). grown (single i) (word_rows w n (part (i + 1) e l))) (sym (add-one i)))
        ∙ sym (grown_single (matched first after) ahead i)
        ∙ ap (λ (o : Option Bounds). grown o ahead) (matched_single first after i);
  }

  -- a row of a higher word: what is ahead is not looked at
  pub walked_above : i < e → get_or rows (i * row_width + at_word_mark) 0 ≡ 1 → w < get_or rows (i * row_width + at_word) 0 → OfRows rows e (λ l. word_rows w start (part start e l) ≡ matched first after)
  walked_above x m a = λ l h k.
      let y : i < length l = omega arith in
      let r = get_or l i no_row in
      let mark = eq-eqb r.word_mark 1 (sym (stored_word_mark h i y) ∙ m) in
      let high = lt-ltb w r.word (omega (arith, stored_word h i y)) in
      walked.so l h k
      ∙ ap (λ (p : List Row). grown (matched first after) (word_rows w i p)) (part_cons l i e no_row x k)
      ∙ ap (grown (matched first after)) (step_above w r i (part (i + 1) e l) (rw (mark, high)))
      ∙ grown_nothing (matched first after)
