-- How the sequence column is written: one row marked, all rows of one sequence, one sequence after another.
-- Assumes nothing.
use mathlib.Core.Path.{◌≡◌, refl, sym, ap, ap₂, ◌∙◌, subst}
use mathlib.Core.Bool.{Bool, true, false, cond, and-false}
use mathlib.Core.Option.{Option, none as nothing, some}
use Prim.Native.Nat.{ℕ, zero, suc, ◌+◌, ◌*◌, ◌≤◌, ◌<◌}
use native.Mathlib.Numerals.{add-one}
use native.Mathlib.Omega.{arith}
use mathlib.Core.List.{List, ◌++◌, append_assoc}
use lib.Dec.{ltb, eqb}
use lib.ListN.{length, set, replicate}
use borrow.Author.Tests.{le-leb, lt-leb, lt-ltb, le-ltb, eq-eqb, ne_eqb, ltb-true, ltb-false}
use Rattle.record.specs.Tree.{Encoding}
use Rattle.record.specs.declared.Bounds.{Bounds}
use Rattle.lookup_ranges.specs.Ranges.{sequence_range, n_sequences, sequence_at, mark_and_id, column, get_sequence_ids}
use Rattle.lookup_ranges.specs.Promises.{marked, Marks}
use Rattle.lookup_ranges.proofs.Column.{column_same, column_none}

-- ---- One row marked

abbrev put : ℕ → ℕ → (ℕ → Option ℕ) → ℕ → Option ℕ
put at id f row = cond (eqb row at) (some id) (f row)

put_there : (at id : ℕ) (f : ℕ → Option ℕ) (row : ℕ) → row ≡ at → put at id f row ≡ some id
put_there at id f row e = rw (eq-eqb row at e)

put_not : (at id : ℕ) (f : ℕ → Option ℕ) (row : ℕ) → (row ≡ at → ⊥) → put at id f row ≡ f row
put_not at id f row e = rw (ne_eqb row at e)

set_pair : (o : Option ℕ) (l : List ℕ) (id : ℕ) → set (set (mark_and_id o ++ l) 0 1) 1 id ≡ mark_and_id (some id) ++ l
set_pair nothing l id = refl
set_pair (some k) l id = refl

set_later : (o : Option ℕ) (l : List ℕ) (i a : ℕ) → set (mark_and_id o ++ l) (suc (suc i)) a ≡ mark_and_id o ++ set l i a
set_later nothing l i a = refl
set_later (some k) l i a = refl

pub column_put : (f : ℕ → Option ℕ) (id i m n : ℕ) (rest : List ℕ) → m < n → set (set (column f i n ++ rest) (2 * m) 1) (2 * m + 1) id ≡ column (put (i + m) id f) i n ++ rest
unfolding column
column_put f id i m zero rest h = absurd (omega arith)
column_put f id i zero (suc n) rest h =
    let g = put (i + 0) id f in
    let same : column f (suc i) n ≡ column g (suc i) n = column_same f g (suc i) n (λ row a. sym (put_not (i + 0) id f row (λ e. omega arith))) in
    ap (λ (l : List ℕ). set (set l 0 1) 1 id) (append_assoc (mark_and_id (f i)) (column f (suc i) n) rest)
    ∙ set_pair (f i) (column f (suc i) n ++ rest) id
    ∙ ap₂ (λ (o : Option ℕ) (l : List ℕ). mark_and_id o ++ l ++ rest) (sym (put_there (i + 0) id f i (omega arith))) same
column_put f id i (suc m) (suc n) rest h =
    let g = put (i + suc m) id f in
    let here : 2 * suc m ≡ suc (suc (2 * m)) = omega arith in
    let there : 2 * suc m + 1 ≡ suc (suc (2 * m + 1)) = omega arith in
    let at : suc i + m ≡ i + suc m = omega arith in
    rw (there, here, append_assoc (mark_and_id (f i)) (column f (suc i) n) rest, set_later (f i), set_later (f i))
    (ap (mark_and_id (f i) ++◌) (column_put f id (suc i) m n rest (omega arith))
    ∙ rw at (ap (λ (o : Option ℕ). mark_and_id o ++ (column g (suc i) n ++ rest)) (sym (put_not (i + suc m) id f i (λ e. omega arith))))
    ∙ sym (append_assoc (mark_and_id (g i)) (column g (suc i) n) rest))

-- ---- The rows of one sequence, one after another

abbrev pub from_to_lem : ℕ → ℕ → Bounds
from_to_lem start end = record { start = start; end = end }

none_marked : (start id : ℕ) (f : ℕ → Option ℕ) (row : ℕ) → marked (from_to_lem start start) id f row ≡ f row
none_marked start id f row = go (ltb row start) refl
  where
    go : (b : Bool) → ltb row start ≡ b → marked (from_to_lem start start) id f row ≡ f row
    go true b = rw (lt-leb start row (ltb-true row start b))
    go false b = rw (b, and-false)

one_marked : (start i id : ℕ) (f : ℕ → Option ℕ) (row : ℕ) → start ≤ i → put i id (marked (from_to_lem start i) id f) row ≡ marked (from_to_lem start (i + 1)) id f row
one_marked start i id f row h = go (ltb row i) refl (ltb i row) refl
  where
    other : (b : Bool) → (row ≡ i → ⊥) → ltb row i ≡ b → ltb row (i + 1) ≡ b → put i id (marked (from_to_lem start i) id f) row ≡ marked (from_to_lem start (i + 1)) id f row
    other b n e e' = put_not i id (marked (from_to_lem start i) id f) row n ∙ rw (e, e')

    go : (b : Bool) → ltb row i ≡ b → (c : Bool) → ltb i row ≡ c → put i id (marked (from_to_lem start i) id f) row ≡ marked (from_to_lem start (i + 1)) id f row
    go true b c d = other true (λ e. omega (arith, ltb-true row i b)) b (lt-ltb row (i + 1) (omega (arith, ltb-true row i b)))
    go false b true d = other false (λ e. omega (arith, ltb-true i row d)) b (le-ltb row (i + 1) (omega (arith, ltb-true i row d)))
    go false b false d =
        let e : row ≡ i = omega (arith, ltb-false row i b, ltb-false i row d) in
        put_there i id (marked (from_to_lem start i) id f) row e ∙ rw (le-leb start row (omega arith), lt-ltb row (i + 1) (omega arith))

-- before the first
pub marks_none : (start id : ℕ) (out : List ℕ) → Marks (from_to_lem start start) id out out
marks_none start id out f n rest b e = e ∙ ap (◌++ rest) (column_same f (marked (from_to_lem start start) id f) 0 n (λ row a. sym (none_marked start id f row)))

-- one more
pub marks_more : (start i id : ℕ) (was out : List ℕ) → start ≤ i → Marks (from_to_lem start i) id was out → Marks (from_to_lem start (i + 1)) id was (set (set out (2 * i) 1) (2 * i + 1) id)
marks_more start i id was out h m f n rest b e =
    let z : 0 + i ≡ i = omega arith in
    ap (λ (l : List ℕ). set (set l (2 * i) 1) (2 * i + 1) id) (m f n rest (omega arith) e)
    ∙ column_put (marked (from_to_lem start i) id f) id 0 i n rest (omega arith)
    ∙ rw z (ap (◌++ rest) (column_same (put i id (marked (from_to_lem start i) id f)) (marked (from_to_lem start (i + 1)) id f) 0 n (λ row a. one_marked start i id f row h)))

-- after the last
pub marks_all : (b : Bounds) (i id : ℕ) (was out : List ℕ) → i ≡ b.end → Marks (from_to_lem b.start i) id was out → Marks b id was out
marks_all b i id was out e m = subst (λ (k : ℕ). Marks (from_to_lem b.start k) id was out) e m

-- ---- One sequence after another: "ids 0 to n−1, later ids overwriting"

abbrev pub column_to : Encoding → ℕ → List ℕ
column_to E k = column (λ row. sequence_at E row k) 0 (length E.rows)

pub column_start : (E : Encoding) → column_to E 0 ≡ replicate (2 * length E.rows) 0
unfolding sequence_at
column_start E = column_none 0 (length E.rows)

pub column_next : (E : Encoding) (k : ℕ) → column (marked (sequence_range E k) k (λ row. sequence_at E row k)) 0 (length E.rows) ≡ column_to E (k + 1)
unfolding sequence_at
column_next E k = rw (add-one k)

-- one more sequence
pub marks_sequence : (E : Encoding) (k : ℕ) (b : Bounds) (was after rest : List ℕ) → b ≡ sequence_range E k → (sequence_range E k).end ≤ length E.rows → Marks b k was after → was ≡ column_to E k ++ rest → after ≡ column_to E (k + 1) ++ rest
marks_sequence E k b was after rest e w m s =
    let marks = subst (λ (c : Bounds). Marks c k was after) e m in
    marks (λ row. sequence_at E row k) (length E.rows) rest w s ∙ ap (◌++ rest) (column_next E k)

pub column_all : (E : Encoding) (k : ℕ) → k ≡ n_sequences E → column_to E k ≡ get_sequence_ids E
unfolding get_sequence_ids
column_all E k e = ap (column_to E) e
