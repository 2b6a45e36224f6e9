-- The loops that change rows in place: after i turns the first i rows are changed, and the others are as they were.
-- Assumes nothing.
use mathlib.Core.Path.{◌≡◌, refl, sym, ap, ◌∙◌}
use mathlib.Core.List.{List, ◌++◌, flat_map, map}
use Prim.Native.Nat.{ℕ, ◌+◌, ◌*◌, ◌<◌}
use native.Mathlib.Numerals.{add-one}
use native.Mathlib.Omega.{arith}
use lib.ListN.{length, get_or, take, set, length-map, get_or-map}
use lib.Seq.{sets, take_all}
use Rattle.record.specs.Tree.{Row}
use Rattle.record.specs.Flat.{row_width, row_numbers}
use Rattle.record.specs.Standing.{RowsAt}
use Rattle.record.proofs.Flat.{row_stored}
use Rattle.join_view.specs.View.{typed_row}
use Rattle.lists.specs.Stretch.{Stretch}
use Rattle.join_rows.specs.Promises.{MakesRows}
use Rattle.join_view.proofs.InPlace.{next_stands, next_written}
use Rattle.lists.proofs.Written.{set_inside, stands_over, stands_same}

-- what stands where no row is
abbrev pub blank : Row
blank = record { id = 0; type_id = 0; pool = 0; text_start = 0; text_length = 0; word_mark = 0; word = 0; offset_start = 0; offset_end = 0; special = 0; attention = 0 }

-- ---- One row

-- its type written
pub typed_there : (l : List ℕ) (i t : ℕ) (r : Row) → Stretch l i (row_numbers r) → set l (i + 1) t ≡ sets l i (row_numbers (typed_row t r))
unfolding row_numbers
typed_there l i t r h =
    set_inside l i 1 t ∙ ap (λ (m : List ℕ). take i l ++ set m 1 t) h.is ∙ sym (stands_over h (row_numbers (typed_row t r)) refl)

-- ---- Rows that stand

pub rows_stretch : {rows : List ℕ} {j : ℕ} {R : List Row} → RowsAt rows j R → Stretch rows j (flat_map row_numbers R)
rows_stretch h = record { rest = h.rest; is = h.is }

-- rows that stand there, written once more
pub rows_there : {rows : List ℕ} {j : ℕ} {R : List Row} → RowsAt rows j R → rows ≡ sets rows j (flat_map row_numbers R)
rows_there h = sym (stands_same (rows_stretch h))

-- ---- One row after another

-- the first i of `count` rows at j are changed by f
pub record Turning (f : Row → Row) (before : List ℕ) (j count : ℕ) (now : List ℕ) (i : ℕ) : Type 0 where
  pub long : length now ≡ length before
  pub changed : (R : List Row) → RowsAt before j R → length R ≡ count → now ≡ sets before j (flat_map row_numbers (take i (map f R)))

pub turning_start : (f : Row → Row) (before : List ℕ) (j count : ℕ) → Turning f before j count before 0
unfolding flat_map
turning_start f before j count = record { long = refl; changed = λ R h n. refl }

module _ {f : Row → Row} {before : List ℕ} {j count : ℕ} {now : List ℕ} {i : ℕ} (t : Turning f before j count now i) where
  pub turning_row : (R : List Row) → RowsAt before j R → length R ≡ count → i < count → (d : Row) → Stretch now (j + i * row_width) (row_numbers (get_or R i d))
  turning_row R h n k d =
      rw (t.changed R h n) (next_stands row_stored before j R (map f R) i d (rows_stretch h) (length-map R f) (omega arith))

  pub turning_on : {now' : List ℕ} → i < count → length now' ≡ length now → ((r : Row) → Stretch now (j + i * row_width) (row_numbers r) → now' ≡ sets now (j + i * row_width) (row_numbers (f r))) → Turning f before j count now' (i + 1)
  turning_on {now'} k l step =
      record {
        long = l ∙ t.long;
        changed = λ R h n.
            step (get_or R i blank) (turning_row R h n k blank)
            ∙ ap (λ (l : List ℕ). sets l (j + i * row_width) (row_numbers (f (get_or R i blank)))) (t.changed R h n)
            ∙ ap (λ (r : Row). sets (sets before j (flat_map row_numbers (take i (map f R)))) (j + i * row_width) (row_numbers r)) (sym (get_or-map f R i blank))
            ∙ next_written row_stored before j (map f R) i (f blank) (omega (arith, length-map R f))
            ∙ ap (λ (m : ℕ). sets before j (flat_map row_numbers (take m (map f R)))) (sym (add-one i));
      }

  pub turning_end : i ≡ count → MakesRows (map f) before j count before j now
  turning_end e =
      record { made = λ R h n. t.changed R h n ∙ ap (λ (rs : List Row). sets before j (flat_map row_numbers rs)) (take_all i (map f R) (omega (arith, length-map R f))) }
