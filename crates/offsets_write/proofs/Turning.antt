-- One row after another converted. Assumes nothing.
use Rattle.std.specs.Prelude.{Option, None}
use mathlib.Core.Path.{◌≡◌, refl, ap, ap₂, sym, ◌∙◌}
use Prim.Native.Nat.{ℕ, zero, suc, ◌+◌, ◌*◌, ◌≤◌, ◌<◌}
use native.Mathlib.Nat.{zero-mul}
use native.Mathlib.Numerals.{add-one}
use native.Mathlib.Omega.{arith}
use mathlib.Core.List.{List, [], ◌∷◌, ◌++◌, map, flat_map, append_assoc, append-nil}
use lib.ListN.{length, set, drop, length-append, length-map, length-drop}
use lib.Seq.{drop-drop, drop_at, get_or-append-add}
use Rattle.lists.proofs.FlatMap.{map_append, flat_map_append}
use Rattle.lists.proofs.Writing.{sets_right}
use Rattle.record.specs.Tree.{Row}
use Rattle.record.specs.Flat.{row_width, row_numbers, row_at}
use Rattle.record.specs.Read.{several}
use Rattle.record.proofs.Flat.{length_numbers, row_stored}
use Rattle.record.proofs.Several.{length_several, several_more}
use Rattle.offsets_trees.specs.declared.Fault.{Fault}
use Rattle.offsets_trees.specs.Offsets.{with_offsets, row_fault, rows_fault}
use Rattle.offsets_trees.proofs.RoundTrips.{earlier_both}
use Rattle.offsets_write.specs.Promises.{row_converted}

module _ (convert : ℕ → ℕ) (before : List ℕ) (r : Row) (after : List ℕ) where
  -- a row converted where it stands
  pub row_converted_lem : row_converted convert (before ++ (row_numbers r ++ after)) (length before) ≡ before ++ (row_numbers (with_offsets convert r) ++ after)
  unfolding row_numbers
  row_converted_lem =
      let numbers = row_numbers r ++ after in
      ap₂ (λ (s : ℕ) (e : ℕ). set (set (before ++ numbers) (length before + 7) (convert s)) (length before + 8) (convert e))
      (get_or-append-add before numbers 7 0) (get_or-append-add before numbers 8 0)
      ∙ ap (λ (l : List ℕ). set l (length before + 8) (convert r.offset_end)) (sets_right before numbers 7 (convert r.offset_start ∷ []))
      ∙ sets_right before (set numbers 7 (convert r.offset_start)) 8 (convert r.offset_end ∷ [])

-- each of the rows has no fault
pub row_fine : (fault : ℕ → Option Fault) (count : ℕ) (rows : List ℕ) (i : ℕ) → rows_fault fault (several row_at row_width count rows) ≡ None → i < count
    → row_fault fault (row_at (drop (i * row_width) rows)) ≡ None
unfolding rows_fault several
row_fine fault zero rows i fine h = absurd (omega arith)
row_fine fault (suc count) rows zero fine h =
    ap (λ (n : ℕ). row_fault fault (row_at (drop n rows))) (zero-mul row_width)
    ∙ (earlier_both (row_fault fault (row_at rows)) (rows_fault fault (several row_at row_width count (drop row_width rows))) fine).0
row_fine fault (suc count) rows (suc i) fine h =
    let there : row_width + i * row_width ≡ suc i * row_width = omega arith in
    ap (λ (l : List ℕ). row_fault fault (row_at l)) (sym (drop-drop (i * row_width) row_width rows ∙ ap (λ (n : ℕ). drop n rows) there))
    ∙ row_fine fault count (drop row_width rows) i (earlier_both (row_fault fault (row_at rows)) (rows_fault fault (several row_at row_width count (drop row_width rows))) fine).1 (omega arith)

module _ (convert : ℕ → ℕ) (was : List ℕ) where
  -- the numbers of the first rows, converted
  abbrev pub done : ℕ → List ℕ
  done i = flat_map row_numbers (map (with_offsets convert) (several row_at row_width i was))

  length_done : (i : ℕ) → length (done i) ≡ i * row_width
  length_done i =
      length_numbers row_stored (map (with_offsets convert) (several row_at row_width i was))
      ∙ ap (λ (n : ℕ). n * row_width) (length-map (several row_at row_width i was) (with_offsets convert) ∙ length_several row_at row_width i was)

  -- The rows up to i are converted, and the others are as they were.
  pub record Turning (count i : ℕ) (rows : List ℕ) : Type 0 where
    pub inside : i ≤ count
    pub is : rows ≡ done i ++ drop (i * row_width) was

  pub turning_start : (count : ℕ) → Turning count 0 was
  unfolding several flat_map
  turning_start count = record { inside = omega arith; is = refl }

  module _ {count i : ℕ} {rows : List ℕ} (t : Turning count i rows) where
    pub turning_rest : drop (i * row_width) rows ≡ drop (i * row_width) was
    turning_rest = ap (drop (i * row_width)) t.is ∙ drop_at (done i) (drop (i * row_width) was) (i * row_width) (length_done i)

    pub turning_length : i * row_width ≤ length was → length rows ≡ length was
    turning_length h =
        ap length t.is
        ∙ length-append (done i) (drop (i * row_width) was)
        ∙ omega (arith, length_done i, length-drop (i * row_width) was)

    pub turning_next : i < count → count * row_width ≤ length was → {next : List ℕ} → next ≡ row_converted convert rows (i * row_width) → Turning count (i + 1) next
    unfolding flat_map
    turning_next h fits e =
        let r = row_at (drop (i * row_width) was) in
        let later = drop ((i + 1) * row_width) was in
        let there : i * row_width + row_width ≡ (i + 1) * row_width = omega arith in
        let row : drop (i * row_width) was ≡ row_numbers r ++ later
        = sym (row_stored.forth (drop (i * row_width) was) (omega (arith, length-drop (i * row_width) was)))
        ∙ ap (λ (l : List ℕ). row_numbers r ++ l) (drop-drop row_width (i * row_width) was ∙ ap (λ (n : ℕ). drop n was) there) in
        let more : done (i + 1) ≡ done i ++ row_numbers (with_offsets convert r)
        = ap done (add-one i)
        ∙ ap (λ (R : List Row). flat_map row_numbers (map (with_offsets convert) R)) (several_more row_at row_width i was)
        ∙ ap (flat_map row_numbers) (map_append (with_offsets convert) (several row_at row_width i was) (r ∷ []))
        ∙ flat_map_append row_numbers (map (with_offsets convert) (several row_at row_width i was)) (with_offsets convert r ∷ [])
        ∙ ap (λ (l : List ℕ). done i ++ l) (append-nil (row_numbers (with_offsets convert r))) in
        record {
          inside = omega arith;
          is =
              e
              ∙ ap₂ (λ (l : List ℕ) (n : ℕ). row_converted convert l n) (t.is ∙ ap (λ (l : List ℕ). done i ++ l) row) (sym (length_done i))
              ∙ row_converted_lem convert (done i) r later
              ∙ sym (append_assoc (done i) (row_numbers (with_offsets convert r)) later)
              ∙ ap (λ (l : List ℕ). l ++ later) (sym more);
        }

    pub turning_end : count ≤ i → rows ≡ flat_map row_numbers (map (with_offsets convert) (several row_at row_width count was)) ++ drop (count * row_width) was
    turning_end h =
        let all : i ≡ count = omega (arith, t.inside) in
        rw all at t.is
