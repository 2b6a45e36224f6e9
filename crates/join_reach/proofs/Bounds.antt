-- A bound of the offsets of rows that stand at a place: their bits, put together, a row or four rows in a turn.
-- Assumes nothing.
use mathlib.Core.Path.{◌≡◌, refl, sym, subst}
use Prim.Native.Nat.{ℕ, ◌+◌, ◌*◌, ◌-◌, ◌≤◌, ◌<◌, max}
use native.Mathlib.Omega.{arith}
use mathlib.Core.List.{List, [], ◌∷◌}
use lib.Bits.{bit_or}
use lib.ListN.{get_or}
use Rattle.lists.proofs.Bits.{left_within, right_within}
use Rattle.record.specs.Tree.{Row}
use Rattle.record.specs.Flat.{row_width}
use Rattle.record.specs.Standing.{RowsAt}
use Rattle.join_reach.specs.Reach.{largest_offset}
use Rattle.join_reach.specs.Promises.{RowsFrom, BoundsFour}
use Rattle.join_reach.proofs.Rows.{row_start, row_end, rows_after}

-- of the rows R, `left` are to come, from place `row` on; no offset of the others passes both `starts` and `ends`
pub record Bounded (rows : List ℕ) (R : List Row) (left row starts ends : ℕ) : Type 0 where
  pub to_come : List Row
  pub from : RowsFrom rows row left to_come
  pub all : largest_offset R ≤ max (max starts ends) (largest_offset to_come)

pub bounded_start : {rows : List ℕ} {j count : ℕ} {R : List Row} → RowsFrom rows j count R → Bounded rows R count j 0 0
bounded_start {rows} {j} {count} {R} h = record { to_come = R; from = h; all = omega arith }

-- one row more, whose offsets the new bounds are not below
pub bounded_turn : {rows : List ℕ} {R : List Row} {left row starts ends : ℕ} (left' row' s e : ℕ) → Bounded rows R left row starts ends → 0 < left → left' ≡ left - 1 → row' ≡ row + row_width → (starts ≤ s) × (ends ≤ e) → get_or rows (row + 7) 0 ≤ s → get_or rows (row + 8) 0 ≤ e → Bounded rows R left' row' s e
unfolding largest_offset
bounded_turn {rows} {R} {left} {row} {starts} {ends} left' row' s e b k fewer further (more_s, more_e) start end = go b.to_come b.from b.all
  where
    go : (l : List Row) → RowsFrom rows row left l → largest_offset R ≤ max (max starts ends) (largest_offset l) → Bounded rows R left' row' s e
    go [] h a = absurd (omega (arith, h.counts))
    go (r ∷ l) h a =
        record {
          to_come = l;
          from = record { there = subst (λ (n : ℕ). RowsAt rows n l) (sym further) (rows_after h.there); counts = omega (arith, h.counts) };
          all = omega (arith, row_start h.there, row_end h.there);
        }

-- the bits of what the bounds were and of one row's offsets
pub bounded_one : {rows : List ℕ} {R : List Row} {left row starts ends : ℕ} (left' row' : ℕ) → Bounded rows R left row starts ends → 0 < left → left' ≡ left - 1 → row' ≡ row + row_width → Bounded rows R left' row' (bit_or starts (get_or rows (row + 7) 0)) (bit_or ends (get_or rows (row + 8) 0))
bounded_one {rows} {R} {left} {row} {starts} {ends} left' row' b k fewer further =
    let start = get_or rows (row + 7) 0 in
    let end = get_or rows (row + 8) 0 in
    bounded_turn left' row' (bit_or starts start) (bit_or ends end) b k fewer further (left_within starts start, left_within ends end) (right_within starts start) (right_within ends end)

-- the bits of four numbers of a column bound them
pub bits_of_four : (rows : List ℕ) (at : ℕ) → BoundsFour rows at (bit_or (bit_or (bit_or (get_or rows at 0) (get_or rows (at + row_width) 0)) (get_or rows (at + 2 * row_width) 0)) (get_or rows (at + 3 * row_width) 0))
bits_of_four rows at =
    let a = get_or rows at 0 in
    let b = get_or rows (at + row_width) 0 in
    let c = get_or rows (at + 2 * row_width) 0 in
    let d = get_or rows (at + 3 * row_width) 0 in
    let three : bit_or (bit_or a b) c ≤ bit_or (bit_or (bit_or a b) c) d = left_within (bit_or (bit_or a b) c) d in
    let two : bit_or a b ≤ bit_or (bit_or (bit_or a b) c) d = omega (arith, left_within (bit_or a b) c) in
    record {
      first = omega (arith, left_within a b);
      second = omega (arith, right_within a b);
      third = omega (arith, right_within (bit_or a b) c);
      fourth = right_within (bit_or (bit_or a b) c) d;
    }

-- what r bounds, it bounds with more bits too
with_more : (rows : List ℕ) (place at n r : ℕ) → get_or rows at 0 ≤ r → at ≡ place → get_or rows place 0 ≤ bit_or n r
with_more rows place at n r h e = subst (λ (i : ℕ). get_or rows i 0 ≤ bit_or n r) e (omega (arith, h, right_within n r))

-- the bits of what the bounds were and of bounds of four rows' offsets
pub bounded_four : {rows : List ℕ} {R : List Row} {left row starts ends m n : ℕ} (left' row' : ℕ) → Bounded rows R left row starts ends → 4 ≤ left → left' ≡ left - 4 → row' ≡ row + 4 * row_width → BoundsFour rows (row + 7) m → BoundsFour rows (row + 8) n → Bounded rows R left' row' (bit_or starts m) (bit_or ends n)
bounded_four {rows} {R} {left} {row} {starts} {ends} {m} {n} left' row' b k fewer further hm hn =
    let s = bit_or starts m in
    let e = bit_or ends n in
    let same : (s ≤ s) × (e ≤ e) = (omega arith, omega arith) in
    let second = row + row_width in
    let third = second + row_width in
    let fourth = third + row_width in
    let one = bounded_turn (left - 1) second s e b (omega arith) refl refl (left_within starts m, left_within ends n) (with_more rows (row + 7) (row + 7) starts m hm.first refl) (with_more rows (row + 8) (row + 8) ends n hn.first refl) in
    let two = bounded_turn (left - 2) third s e one (omega arith) (omega arith) refl same (with_more rows (second + 7) (row + 7 + row_width) starts m hm.second (omega arith)) (with_more rows (second + 8) (row + 8 + row_width) ends n hn.second (omega arith)) in
    let three = bounded_turn (left - 3) fourth s e two (omega arith) (omega arith) refl same (with_more rows (third + 7) (row + 7 + 2 * row_width) starts m hm.third (omega arith)) (with_more rows (third + 8) (row + 8 + 2 * row_width) ends n hn.third (omega arith)) in
    bounded_turn left' row' s e three (omega arith) (omega arith) (omega arith) same (with_more rows (fourth + 7) (row + 7 + 3 * row_width) starts m hm.fourth (omega arith)) (with_more rows (fourth + 8) (row + 8 + 3 * row_width) ends n hn.fourth (omega arith))

-- those to come, told by another count and another place
pub still_to_come : {rows : List ℕ} {R : List Row} {left row starts ends : ℕ} (left' row' : ℕ) (b : Bounded rows R left row starts ends) → left' ≡ left → row' ≡ row → RowsFrom rows row' left' b.to_come
still_to_come left' row' b same here = rw (same, here) b.from

-- a bound of those to come bounds all, together with those of the others
pub bounded_all : {rows : List ℕ} {R : List Row} {left row starts ends : ℕ} (few : ℕ) (b : Bounded rows R left row starts ends) → largest_offset b.to_come ≤ few → largest_offset R ≤ bit_or (bit_or starts ends) few
bounded_all {rows} {R} {left} {row} {starts} {ends} few b h =
    omega (arith, b.all, left_within starts ends, right_within starts ends, left_within (bit_or starts ends) few, right_within (bit_or starts ends) few)

pub bounded_end : {rows : List ℕ} {R : List Row} {left row starts ends : ℕ} → Bounded rows R left row starts ends → left ≡ 0 → largest_offset R ≤ bit_or starts ends
unfolding largest_offset
bounded_end {rows} {R} {left} {row} {starts} {ends} s z = go s.to_come s.from s.all
  where
    go : (l : List Row) → RowsFrom rows row left l → largest_offset R ≤ max (max starts ends) (largest_offset l) → largest_offset R ≤ bit_or starts ends
    go [] h e = omega (arith, left_within starts ends, right_within starts ends)
    go (r ∷ l) h e = absurd (omega (arith, h.counts))
