-- A row of those that stand at a place is the row read there. Assumes nothing.
use mathlib.Core.Path.{◌≡◌, sym, ap, ◌∙◌}
use Prim.Native.Nat.{ℕ, zero, suc, ◌+◌, ◌*◌, ◌<◌}
use native.Mathlib.Nat.{suc-mul}
use native.Mathlib.Omega.{arith}
use mathlib.Core.List.{List, [], ◌∷◌, ◌++◌, flat_map, append_assoc}
use lib.ListN.{length, get_or, drop}
use lib.Seq.{drop_at, drop-drop, get_or-drop}
use Rattle.record.specs.Tree.{Row}
use Rattle.record.specs.Flat.{row_width, row_numbers, row_at}
use Rattle.record.specs.Standing.{RowsAt}
use Rattle.record.proofs.Flat.{row_stored}

-- row k of numbers that begin with those of the rows
row_among : (R : List Row) (rest : List ℕ) (k : ℕ) (d : Row) → k < length R → row_at (drop (k * row_width) (flat_map row_numbers R ++ rest)) ≡ get_or R k d
unfolding flat_map
row_among [] rest k d h = absurd (omega arith)
row_among (r ∷ R) rest zero d h = ap row_at (append_assoc (row_numbers r) (flat_map row_numbers R) rest) ∙ row_stored.back r (flat_map row_numbers R ++ rest)
row_among (r ∷ R) rest (suc k) d h =
    let more : suc k * row_width ≡ row_width + k * row_width = omega (arith, suc-mul k row_width) in
    ap row_at
    (ap (λ (n : ℕ). drop n ((row_numbers r ++ flat_map row_numbers R) ++ rest)) more
    ∙ sym (drop-drop (k * row_width) row_width ((row_numbers r ++ flat_map row_numbers R) ++ rest))
    ∙ ap (drop (k * row_width)) (ap (drop row_width) (append_assoc (row_numbers r) (flat_map row_numbers R) rest) ∙ drop_at (row_numbers r) (flat_map row_numbers R ++ rest) row_width (row_stored.long r)))
    ∙ row_among R rest k d (omega arith)

pub row_here : {rows : List ℕ} {first : ℕ} {R : List Row} → RowsAt rows first R → (k : ℕ) (d : Row) → k < length R → row_at (drop (first + k * row_width) rows) ≡ get_or R k d
row_here {rows} {first} {R} h k d inside = ap row_at (sym (drop-drop (k * row_width) first rows) ∙ ap (drop (k * row_width)) h.is) ∙ row_among R h.rest k d inside

-- its word mark and its word, read at a place
module _ (rows : List ℕ) (at : ℕ) where
  pub mark_here : get_or rows (at + 5) 0 ≡ (row_at (drop at rows)).word_mark
  unfolding row_at
  mark_here = sym (get_or-drop at rows 5 0)

  pub word_here : get_or rows (at + 6) 0 ≡ (row_at (drop at rows)).word
  unfolding row_at
  word_here = sym (get_or-drop at rows 6 0)
