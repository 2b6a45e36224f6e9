-- Rows that stand at a place: the last one's offset end, and the walk that finds the largest offset of them all.
-- Assumes nothing.
use mathlib.Core.Path.{◌≡◌, refl, sym, ap, subst, ◌∙◌}
use Prim.Native.Nat.{ℕ, suc, ◌+◌, ◌*◌, ◌-◌, ◌≤◌, ◌<◌, max}
use native.Mathlib.Omega.{arith}
use mathlib.Core.List.{List, [], ◌∷◌, flat_map}
use lib.ListN.{length, get_or, drop, length-append, length-drop}
use lib.Seq.{drop-drop, get_or-drop}
use Rattle.record.specs.Tree.{Row}
use Rattle.record.specs.Flat.{row_width, row_numbers}
use Rattle.record.specs.Standing.{RowsAt}
use Rattle.record.proofs.Flat.{length_numbers, row_stored}
use Rattle.join_trees.specs.Join.{last_end}
use Rattle.join_reach.specs.Reach.{largest_offset}
use Rattle.join_reach.specs.Promises.{RowsFrom}

pub rows_long : {rows : List ℕ} {j count : ℕ} {R : List Row} → RowsFrom rows j count R → 0 < count → j + count * row_width ≤ length rows
rows_long {rows} {j} {count} {R} h k = omega (arith, h.counts, ap length h.there.is, length-drop j rows, length-append (flat_map row_numbers R) h.there.rest, length_numbers row_stored R)

-- ---- The first of them

module _ {rows : List ℕ} {j : ℕ} {r : Row} {R : List Row} (h : RowsAt rows j (r ∷ R)) where
  pub row_start : get_or rows (j + 7) 0 ≡ r.offset_start
  unfolding flat_map row_numbers
  row_start = sym (get_or-drop j rows 7 0) ∙ ap (λ (l : List ℕ). get_or l 7 0) h.is

  pub row_end : get_or rows (j + 8) 0 ≡ r.offset_end
  unfolding flat_map row_numbers
  row_end = sym (get_or-drop j rows 8 0) ∙ ap (λ (l : List ℕ). get_or l 8 0) h.is

  pub rows_after : RowsAt rows (j + row_width) R
  unfolding flat_map row_numbers
  rows_after = record { rest = h.rest; is = sym (drop-drop row_width j rows) ∙ ap (drop row_width) h.is }

-- ---- The last of them

pub last_end_none : (R : List Row) → length R ≡ 0 → 0 ≡ last_end 0 R
last_end_none [] e = refl
last_end_none (r ∷ R) e = absurd (omega arith)

pub last_end_stored : {rows : List ℕ} (R : List Row) (j n : ℕ) → RowsAt rows j R → length R ≡ suc n → get_or rows (j + n * row_width + 8) 0 ≡ last_end 0 R
last_end_stored [] j n h e = absurd (omega arith)
last_end_stored {rows} (r ∷ []) j n h e =
    let at : j + n * row_width + 8 ≡ j + 8 = omega arith in
    ap (λ (i : ℕ). get_or rows i 0) at ∙ row_end h
last_end_stored {rows} (r ∷ s ∷ R) j n h e =
    let at : j + n * row_width + 8 ≡ j + row_width + (n - 1) * row_width + 8 = omega arith in
    ap (λ (i : ℕ). get_or rows i 0) at ∙ last_end_stored (s ∷ R) (j + row_width) (n - 1) (rows_after h) (omega arith)

-- ---- All of them

-- of the rows R, `left` are to come, from place `row` on; `largest` is the largest offset of the others
pub record Scanned (rows : List ℕ) (R : List Row) (left row largest : ℕ) : Type 0 where
  pub to_come : List Row
  pub from : RowsFrom rows row left to_come
  pub all : largest_offset R ≡ max largest (largest_offset to_come)

pub scanned_start : {rows : List ℕ} {j count : ℕ} {R : List Row} → RowsFrom rows j count R → Scanned rows R count j 0
scanned_start {rows} {j} {count} {R} h = record { to_come = R; from = h; all = omega arith }

pub scanned_turn : {rows : List ℕ} {R : List Row} {left row largest : ℕ} (left' row' : ℕ) → Scanned rows R left row largest → 0 < left → left' ≡ left - 1 → row' ≡ row + row_width → Scanned rows R left' row' (max largest (max (get_or rows (row + 7) 0) (get_or rows (row + 8) 0)))
unfolding largest_offset
scanned_turn {rows} {R} {left} {row} {largest} left' row' s k fewer further = go s.to_come s.from s.all
  where
    go : (l : List Row) → RowsFrom rows row left l → largest_offset R ≡ max largest (largest_offset l) → Scanned rows R left' row' (max largest (max (get_or rows (row + 7) 0) (get_or rows (row + 8) 0)))
    go [] h e = absurd (omega (arith, h.counts))
    go (r ∷ l) h e =
        record {
          to_come = l;
          from = record { there = subst (λ (n : ℕ). RowsAt rows n l) (sym further) (rows_after h.there); counts = omega (arith, h.counts) };
          all = omega (arith, row_start h.there, row_end h.there);
        }

pub scanned_end : {rows : List ℕ} {R : List Row} {left row largest : ℕ} → Scanned rows R left row largest → left ≡ 0 → largest ≡ largest_offset R
unfolding largest_offset
scanned_end {rows} {R} {left} {row} {largest} s z = go s.to_come s.from s.all
  where
    go : (l : List Row) → RowsFrom rows row left l → largest_offset R ≡ max largest (largest_offset l) → largest ≡ largest_offset R
    go [] h e = omega arith
    go (r ∷ l) h e = absurd (omega (arith, h.counts))
