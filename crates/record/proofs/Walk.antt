-- The stored numbers of a batch by row number and by node number.
-- Assumes nothing.
use mathlib.Core.Path.{◌≡◌, refl, sym, ap, ◌∙◌}
use Prim.Native.Nat.{ℕ, ◌+◌, ◌*◌, ◌/◌, ◌<◌}
use native.Mathlib.Nat.{mul-div_cancel, zero-lt-suc}
use native.Mathlib.Omega.{arith}
use mathlib.Core.List.{List, [], ◌∷◌, ◌++◌, flat_map, append-nil}
use lib.ListN.{length, get_or, length-append}
use Rattle.lists.proofs.FlatMap.{flat_map_append}
use Rattle.record.specs.Tree.{Row, Forest, none, node}
use Rattle.record.specs.Flat.{row_width, row_numbers, row_at, flat_rows}
use Rattle.record.specs.WellFormed.{nodes_in, rows_in}
use Rattle.record.specs.Read.{read, holds, several}
use Rattle.record.specs.Walk.{all_rows, all_encodings}
use Rattle.record.proofs.Flat.{length_numbers, several_back, several_at, row_stored}
use Rattle.record.proofs.Read.{stored}

pub numbers_append : (s t : List Row) → flat_map row_numbers (s ++ t) ≡ flat_map row_numbers s ++ flat_map row_numbers t
numbers_append = flat_map_append row_numbers

pub flat_rows_lem : (f : Forest) → flat_rows f ≡ flat_map row_numbers (all_rows f)
unfolding flat_rows flat_map all_rows
flat_rows_lem none = refl
flat_rows_lem (node r q w x) = rw (flat_rows_lem w, flat_rows_lem x) (sym (numbers_append r (all_rows w ++ all_rows x) ∙ ap (flat_map row_numbers r ++◌) (numbers_append (all_rows w) (all_rows x))))

-- the numbers of a batch are its rows
pub rows_stored : (nodes rows : List ℕ) (f : Forest) → read nodes rows ≡ holds f → several row_at row_width (length rows / row_width) rows ≡ all_rows f
rows_stored nodes rows f e =
    let numbers : rows ≡ flat_map row_numbers (all_rows f) = sym (stored nodes rows f e).rows_are ∙ flat_rows_lem f in
    let count : length rows / row_width ≡ length (all_rows f)
    = ap (λ (l : List ℕ). length l / row_width) numbers
    ∙ ap (λ (n : ℕ). n / row_width) (length_numbers row_stored (all_rows f))
    ∙ mul-div_cancel (length (all_rows f)) (zero-lt-suc 10) in
    ap (λ (n : ℕ). several row_at row_width n rows) count
    ∙ ap (several row_at row_width (length (all_rows f))) (numbers ∙ sym (append-nil (flat_map row_numbers (all_rows f))))
    ∙ several_back row_stored (all_rows f) []

pub length_all_rows : (f : Forest) → length (all_rows f) ≡ rows_in f
unfolding all_rows
length_all_rows none = refl
length_all_rows (node r q w x) = omega (arith, length-append r (all_rows w ++ all_rows x), length-append (all_rows w) (all_rows x), length_all_rows w, length_all_rows x)

pub length_all_encodings : (f : Forest) → length (all_encodings f) ≡ nodes_in f
unfolding all_encodings
length_all_encodings none = refl
length_all_encodings (node r q w x) = omega (arith, length-append (all_encodings w) (all_encodings x), length_all_encodings w, length_all_encodings x)

-- number j of row i, in a list that holds nothing but rows
pub row_number : (ys : List Row) (i j : ℕ) (d : Row) → i < length ys → j < row_width → get_or (flat_map row_numbers ys) (i * row_width + j) 0 ≡ get_or (row_numbers (get_or ys i d)) j 0
row_number ys i j d h k = ap (λ (l : List ℕ). get_or l (i * row_width + j) 0) (sym (append-nil (flat_map row_numbers ys))) ∙ several_at row_stored ys [] i j d h k
