-- Rows of P after those of S: by how much they move, and that copying them and then changing their columns writes them.
-- Assumes nothing.
use mathlib.Core.Path.{◌≡◌, refl, sym, ap, ap₂, subst, ◌∙◌}
use mathlib.Core.Bool.{Bool, true, false}
use mathlib.Core.List.{List, [], ◌∷◌, flat_map, map, map-map}
use Prim.Native.Nat.{ℕ, suc, ◌+◌, ◌*◌, ◌-◌, ◌≤◌, ◌<◌}
use native.Mathlib.Omega.{arith}
use lib.ListN.{length, get_or, take, drop, length-map}
use lib.Seq.{sets, take_at, get_or-drop}
use Rattle.record.specs.Tree.{Row}
use Rattle.record.specs.Flat.{row_width, row_numbers}
use Rattle.record.specs.Standing.{RowsAt}
use Rattle.record.proofs.Flat.{length_numbers, row_stored, several_at}
use Rattle.lists.proofs.Sets.{sets_append}
use Rattle.record.proofs.Walk.{numbers_append}
use Rattle.join_trees.specs.Join.{moved, last_end, base}
use Rattle.join_view.specs.declared.View.{View}
use Rattle.join_view.specs.declared.View.TheVariants.{Plain, Window, Piece}
use Rattle.join_view.specs.View.{typed_row, rows_seen}
use Rattle.join_shift.specs.Promises.{Shifts}
use Rattle.join_rows.specs.Promises.{AskMoved, MakesRows, moved_rows, AskOwn, WritesOwn}
use Rattle.join_view.proofs.Seen.{length_rows_seen}
use Rattle.lists.proofs.Written.{sets_stand, sets_again}
use Rattle.join_rows.proofs.Turning.{blank, rows_there}

-- ---- By how much

pub base_none : (g : Bool) (R : List Row) → length R ≡ 0 → base g R ≡ 0
base_none true [] e = refl
base_none false R e = refl
base_none true (r ∷ R) e = absurd (omega arith)

last_end_lem : (n : ℕ) (R : List Row) → 0 < length R → last_end n R ≡ (get_or R (length R - 1) blank).offset_end
last_end_lem n [] h = absurd (omega arith)
last_end_lem n (r ∷ []) h = refl
last_end_lem n (r ∷ s ∷ R) h =
    let e : suc (suc (length R)) - 1 ≡ suc (suc (length R) - 1) = omega arith in
    last_end_lem r.offset_end (s ∷ R) (omega arith) ∙ ap (λ (k : ℕ). (get_or (r ∷ s ∷ R) k blank).offset_end) (sym e)

-- the offset end of the last row that stands at j
pub base_last : {rows : List ℕ} {j count : ℕ} (R : List Row) → RowsAt rows j R → length R ≡ count → 0 < count → get_or rows (j + (count - 1) * row_width + 8) 0 ≡ base true R
unfolding row_numbers
base_last {rows} {j} {count} R h e k =
    let i = length R - 1 in
    let p : j + (count - 1) * row_width + 8 ≡ j + (i * row_width + 8) = omega arith in
    ap (λ (n : ℕ). get_or rows n 0) p
    ∙ sym (get_or-drop j rows (i * row_width + 8) 0)
    ∙ ap (λ (l : List ℕ). get_or l (i * row_width + 8) 0) h.is
    ∙ several_at row_stored R h.rest i 8 blank (omega arith) (omega arith)
    ∙ sym (last_end_lem 0 R (omega arith))

-- ---- Rows written, and then changed in place

pub rows_stand : (out : List ℕ) {at : ℕ} {R : List Row} → at + length R * row_width ≤ length out → RowsAt (sets out at (flat_map row_numbers R)) at R
rows_stand out {at} {R} h =
    let s = sets_stand out at (flat_map row_numbers R) (omega (arith, length_numbers row_stored R)) in
    record { rest = s.rest; is = s.is }

-- a block of numbers copied
pub makes_copy : {rows out out₁ : List ℕ} {j count at : ℕ} → out₁ ≡ sets out at (take (count * row_width) (drop j rows)) → MakesRows (λ R. R) rows j count out at out₁
makes_copy {rows} {out} {out₁} {j} {count} {at} e =
    record { made = λ R h n. e ∙ ap (sets out at) (ap (take (count * row_width)) h.is ∙ take_at (flat_map row_numbers R) h.rest (count * row_width) (length_numbers row_stored R ∙ ap (◌* row_width) n)) }

-- rows made, and others made of them in their place
pub makes_then : {make then : List Row → List Row} {rows out out₁ out₂ : List ℕ} {j count at : ℕ} → ((R : List Row) → length (make R) ≡ length R) → ((R : List Row) → length (then R) ≡ length R) → at + count * row_width ≤ length out
    → MakesRows make rows j count out at out₁ → MakesRows then out₁ at count out₁ at out₂ → MakesRows (λ R. then (make R)) rows j count out at out₂
makes_then {make} {then} {rows} {out} {out₁} {out₂} {j} {count} {at} lm lt fits p q =
    record {
      made = λ R h n.
          let size : length (make R) ≡ count = lm R ∙ n in
          let X = flat_map row_numbers (make R) in
          let Y = flat_map row_numbers (then (make R)) in
          let stands : RowsAt out₁ at (make R) = rw (p.made R h n) (rows_stand out (omega arith)) in
          q.made (make R) stands size ∙ ap (λ (l : List ℕ). sets l at Y) (p.made R h n) ∙ sets_again out at X Y (omega (arith, length_numbers row_stored (make R), length_numbers row_stored (then (make R)), lt (make R))) (omega (arith, length_numbers row_stored (then (make R)), lt (make R)));
    }

-- ---- Copied as they move on, and seen

-- a view that leaves rows as they are
pub makes_none : {rows : List ℕ} {j count : ℕ} (v : View) → ((R : List Row) → rows_seen v R ≡ R) → MakesRows (rows_seen v) rows j count rows j rows
makes_none {rows} {j} v e = record { made = λ R h n. rows_there h ∙ ap (λ (rs : List Row). sets rows j (flat_map row_numbers rs)) (sym (e R)) }

-- and one that sets a type
pub makes_typed : {rows rows' : List ℕ} {j count k t : ℕ} (v : View) → v ≡ Piece k t → MakesRows (map (typed_row t)) rows j count rows j rows' → MakesRows (rows_seen v) rows j count rows j rows'
makes_typed {rows} {rows'} {j} {count} v e p = subst (λ (v : View). MakesRows (rows_seen v) rows j count rows j rows') (sym e) p

-- it does not matter which is first
seen_moved : (v : View) (n : ℕ) (R : List Row) → rows_seen v (map (moved n) R) ≡ moved_rows v n R
seen_moved Plain n R = refl
seen_moved (Window k) n R = refl
seen_moved (Piece k t) n R = map-map (typed_row t) (moved n) R ∙ sym (map-map (moved n) (typed_row t) R)

pub makes_moved : {rows out out₁ out₂ : List ℕ} {j count at : ℕ} (v : View) (n : ℕ) → at + count * row_width ≤ length out
    → Shifts rows j count n out at out₁ → MakesRows (rows_seen v) out₁ at count out₁ at out₂ → MakesRows (moved_rows v n) rows j count out at out₂
makes_moved {rows} {out} {out₁} {out₂} {j} {count} {at} v n fits p q =
    let changed = makes_then {make = map (moved n)} (λ R. length-map R (moved n)) (length_rows_seen v) fits (record { made = p.made }) q in
    record { made = λ R h k. changed.made R h k ∙ ap (λ (rs : List Row). sets out at (flat_map row_numbers rs)) (seen_moved v n R) }

-- ---- After the rows of S

module _ {rows : List ℕ} {j count : ℕ} {rows' : List ℕ} {j' count' : ℕ} {g : Bool} {out : List ℕ} {at b : ℕ} (moves : (R : List Row) → RowsAt rows j R → length R ≡ count → b ≡ base g R) where
  pub own_asks : AskOwn rows j count rows' j' count' g out at → AskMoved rows' j' count' b
  own_asks ask = record { R = ask.R'; there = ask.there'; size = ask.size'; within = rw (moves ask.R ask.there ask.size) ask.within; inside = ask.inside' }

  pub own_written : {copied out₁ : List ℕ} (v : View) → copied ≡ sets out at (take (count * row_width) (drop j rows)) → MakesRows (moved_rows v b) rows' j' count' copied (at + count * row_width) out₁ → WritesOwn rows j count rows' j' count' v g out at out₁
  own_written {copied} v e m =
      record {
        own = λ R R' h n h' n'.
            let X = flat_map row_numbers R in
            let long : at + count * row_width ≡ at + length X = omega (arith, length_numbers row_stored R) in
            m.made R' h' n'
            ∙ ap (λ (n : ℕ). sets copied (at + count * row_width) (flat_map row_numbers (moved_rows v n R'))) (moves R h n)
            ∙ ap₂ (λ (l : List ℕ) (i : ℕ). sets l i (flat_map row_numbers (moved_rows v (base g R) R'))) ((makes_copy e).made R h n) long
            ∙ sets_append out at X (flat_map row_numbers (moved_rows v (base g R) R'))
            ∙ ap (sets out at) (sym (numbers_append R (moved_rows v (base g R) R')));
      }
