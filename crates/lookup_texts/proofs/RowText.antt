-- The text of a row: what is answered, by the numbers that are stored; and what a user leans on.
-- Assumes nothing.
use mathlib.Core.Path.{◌≡◌, refl, sym, ap, ◌∙◌, subst}
use mathlib.Core.Bool.{Bool, true, false, cond}
use Prim.Native.Nat.{ℕ, ◌+◌, ◌*◌, ◌≤◌, ◌<◌}
use native.Mathlib.Omega.{arith}
use mathlib.Core.List.{List, []}
use lib.Dec.{leb}
use lib.ListN.{length, get_or, drop, length-take, length-drop}
use borrow.Author.Tests.{le-leb, lt-leb, leb-true}
use Rattle.record.specs.Tree.{Row, Forest}
use Rattle.record.specs.Flat.{row_width, row_numbers, row_at}
use Rattle.record.specs.WellFormed.{Stores}
use Rattle.record.specs.Read.{Reading, malformed, holds, read, of_any}
use Rattle.record.specs.Walk.{all_rows}
use Rattle.record.specs.declared.Refusal.TheVariants.{MalformedRecord, TextOutsidePool}
use Rattle.record.proofs.Flat.{length_rows}
use Rattle.record.proofs.Walk.{flat_rows_lem, row_number, length_all_rows}
use Rattle.record_check.specs.Answers.{shape_of}
use Rattle.record.specs.declared.Refusal.{Refusal}
use Rattle.std.specs.Prelude.{Option as Answer, Some, None, Result, Ok, Err}
use Rattle.lookup_texts.specs.RowText.{pool_of, text_of, text_answer, part_of}
use Rattle.lookup_texts.specs.declared.TextPlace.{TextPlace}
use Rattle.lookup_texts.proofs.Numbered.{numbered_in, numbered_past, numbered_all}
use Rattle.record_check.proofs.Checked.{none_of, any_of}

-- ---- The answer

abbrev pub found_text : ℕ → ℕ → ℕ → Result (Answer TextPlace) Refusal
found_text pool start size = Ok (Some (record { pool = pool; start = start; length = size }))

blank : Row
blank = row_at []

pub text_malformed : (r : Reading) (k : ℕ) (tokens added : List ℕ) {why : Refusal} → shape_of r ≡ Err why → text_answer r k tokens added ≡ Err MalformedRecord
unfolding text_answer
text_malformed r k tokens added e = none_of _ _ r e

module _ {nodes rows : List ℕ} {f : Forest} (s : Stores nodes rows f) where
  -- a row's width for each row
  pub rows_long : length rows ≡ length (all_rows f) * row_width
  rows_long = ap length (sym s.rows_are) ∙ length_rows f ∙ ap (λ (n : ℕ). n * row_width) (sym (length_all_rows f))

  -- a row that begins within the list ends within it
  pub row_whole : (k : ℕ) → k * row_width < length rows → k * row_width + row_width ≤ length rows
  row_whole k h = omega (arith, rows_long)

  module _ (k : ℕ) (tokens added : List ℕ) where
    pub text_past : length rows ≤ k * row_width → text_answer (read nodes rows) k tokens added ≡ Ok None
    unfolding text_answer
    text_past h = any_of _ _ s ∙ numbered_past (Ok None) (text_of tokens added) (all_rows f) k (omega (arith, rows_long))

    module _ (h : k * row_width < length rows) where
      text_row : text_answer (read nodes rows) k tokens added ≡ text_of tokens added (get_or (all_rows f) k blank)
      unfolding text_answer
      text_row = any_of _ _ s ∙ numbered_in (Ok None) (text_of tokens added) (all_rows f) k blank (omega (arith, rows_long))

      number : (j : ℕ) → j < row_width → get_or rows (k * row_width + j) 0 ≡ get_or (row_numbers (get_or (all_rows f) k blank)) j 0
      number j l = rw (← s.rows_are, flat_rows_lem f) (row_number (all_rows f) k j blank (omega (arith, rows_long)) l)

      -- the row's pool, text start and text length, as they are stored
      abbrev pool : ℕ
      pool = get_or rows (k * row_width + 2) 0

      abbrev start : ℕ
      start = get_or rows (k * row_width + 3) 0

      abbrev size : ℕ
      size = get_or rows (k * row_width + 4) 0

      text_stored : text_answer (read nodes rows) k tokens added ≡ cond (leb (start + size) (length (pool_of pool tokens added))) (found_text pool start size) (Err TextOutsidePool)
      unfolding text_of row_numbers
      text_stored = text_row ∙ rw (number 2 (omega arith), number 3 (omega arith), number 4 (omega arith))

      pub text_inside_lem : start + size ≤ length (pool_of pool tokens added) → text_answer (read nodes rows) k tokens added ≡ found_text pool start size
      text_inside_lem l = text_stored ∙ rw (le-leb _ _ l)

      pub text_outside : length (pool_of pool tokens added) < start + size → text_answer (read nodes rows) k tokens added ≡ Err TextOutsidePool
      text_outside l = text_stored ∙ rw (lt-leb _ _ l)

-- ---- What is found

-- what is found lies in its pool
abbrev pub Inside : List ℕ → List ℕ → Result (Answer TextPlace) Refusal → Type 0
Inside tokens added (Err k) = Unit {0}
Inside tokens added (Ok None) = Unit {0}
Inside tokens added (Ok (Some t)) = t.start + t.length ≤ length (pool_of t.pool tokens added)

pub text_lies : (r : Reading) (k : ℕ) (tokens added : List ℕ) → Inside tokens added (text_answer r k tokens added)
unfolding text_answer of_any text_of
text_lies malformed k tokens added = tt
text_lies (holds f) k tokens added =
    numbered_all (Ok None) (text_of tokens added) (Inside tokens added) tt
    (λ r. go r (leb (r.text_start + r.text_length) (length (pool_of r.pool tokens added))) (leb-true _ _))
    (all_rows f) k
  where
    go : (r : Row) (b : Bool) → (b ≡ true → r.text_start + r.text_length ≤ length (pool_of r.pool tokens added)) → Inside tokens added (cond b (found_text r.pool r.text_start r.text_length) (Err TextOutsidePool))
    go r true h = h refl
    go r false h = tt

pub found_inside : (r : Reading) (k : ℕ) (tokens added : List ℕ) {p a n : ℕ} → text_answer r k tokens added ≡ found_text p a n → a + n ≤ length (pool_of p tokens added)
found_inside r k tokens added e = subst (Inside tokens added) e (text_lies r k tokens added)

-- a found text has as many bytes as its row says
pub found_length : (r : Reading) (k : ℕ) (tokens added : List ℕ) {p a n : ℕ} → text_answer r k tokens added ≡ found_text p a n → length (part_of (text_answer r k tokens added) tokens added) ≡ n
found_length r k tokens added {p} {a} {n} e =
    let h : a + n ≤ length (pool_of p tokens added) = found_inside r k tokens added e in
    rw e (length-take n (drop a (pool_of p tokens added)) ∙ omega (arith, length-drop a (pool_of p tokens added)))

-- ---- The part of a pool

-- a text is found, and `l` is its pool
module _ (r : Reading) (k : ℕ) (tokens added : List ℕ) {p a n from size : ℕ} {l : List ℕ} (e : text_answer r k tokens added ≡ found_text p a n) (el : pool_of p tokens added ≡ l) (ea : from ≡ a) (en : size ≡ n) where
  pub part_fits : from + size ≤ length l
  part_fits = rw (ea, en, ← el) (found_inside r k tokens added e)
