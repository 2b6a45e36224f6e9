-- The sequence column: its numbers, and which sequence it gives to a row.
-- Assumes nothing.
use mathlib.Core.Path.{◌≡◌, refl, sym, ap, ap₂, ◌∙◌}
use mathlib.Core.Bool.{Bool, true, false, cond}
use mathlib.Core.Option.{Option, none as nothing, some}
use Prim.Native.Nat.{ℕ, zero, suc, ◌+◌, ◌*◌, ◌≤◌, ◌<◌}
use native.Mathlib.Omega.{arith}
use mathlib.Core.List.{List, ◌∷◌, ◌++◌}
use lib.Dec.{ltb, eqb}
use lib.ListN.{length, get_or, replicate, length-append, get_or-append}
use lib.Seq.{get_or-append-add}
use borrow.Author.Tests.{eqb-true, eqb-false, ltb-true, ltb-false}
use Rattle.record.specs.Tree.{Encoding}
use Rattle.lookup_ranges.specs.Ranges.{row_inside, sequence_range, sequence_at, mark_and_id, column}
use Rattle.lookup_ranges.proofs.First.{not_found}

-- ---- Its numbers

two : (o : Option ℕ) → length (mark_and_id o) ≡ 2
two nothing = refl
two (some k) = refl

pub length_column : (f : ℕ → Option ℕ) (i n : ℕ) → length (column f i n) ≡ 2 * n
unfolding column
length_column f i zero = refl
length_column f i (suc n) = omega (arith, length-append (mark_and_id (f i)) (column f (suc i) n), two (f i), length_column f (suc i) n)

-- it is the same if the rows are in the same sequences
pub column_same : (f g : ℕ → Option ℕ) (i n : ℕ) → ((row : ℕ) → i ≤ row → f row ≡ g row) → column f i n ≡ column g i n
unfolding column
column_same f g i zero h = refl
column_same f g i (suc n) h = ap₂ ◌++◌ (ap mark_and_id (h i (omega arith))) (column_same f g (suc i) n (λ row a. h row (omega arith)))

-- no row is in any sequence
pub column_none : (i n : ℕ) → column (λ row. nothing) i n ≡ replicate (2 * n) 0
unfolding column
column_none i zero = refl
column_none i (suc n) =
    let e : 2 * suc n ≡ suc (suc (2 * n)) = omega arith in
    rw e (ap (λ (l : List ℕ). 0 ∷ 0 ∷ l) (column_none (suc i) n))

-- the mark (number 0) and the id (number 1) of row i + m
pub column_at : (f : ℕ → Option ℕ) (i m n j : ℕ) → m < n → j < 2 → get_or (column f i n) (2 * m + j) 0 ≡ get_or (mark_and_id (f (i + m))) j 0
unfolding column
column_at f i m zero j h b = absurd (omega arith)
column_at f i zero (suc n) j h b =
    let e : 2 * 0 + j ≡ j = omega arith in
    let z : i + 0 ≡ i = omega arith in
    rw (e, z) (get_or-append (mark_and_id (f i)) (column f (suc i) n) 0 j (omega (arith, two (f i))))
column_at f i (suc m) (suc n) j h b =
    let e : 2 * suc m + j ≡ length (mark_and_id (f i)) + (2 * m + j) = omega (arith, two (f i)) in
    let z : suc i + m ≡ i + suc m = omega arith in
    rw e (get_or-append-add (mark_and_id (f i)) (column f (suc i) n) (2 * m + j) 0 ∙ rw z at (column_at f (suc i) m n j (omega arith) b))

-- ---- What it says of a row: the last sequence below n that holds it

below_last_lem : (j n : ℕ) → j < suc n → (j ≡ n → ⊥) → j < n
below_last_lem j n h e = go (ltb j n) refl
  where
    go : (b : Bool) → ltb j n ≡ b → j < n
    go true b = ltb-true j n b
    go false b = absurd (e (omega (arith, ltb-false j n b)))

-- its id is below n and its rows hold this one, and those of no later id do
pub record LastWithin (E : Encoding) (row n k : ℕ) : Type 0 where
  pub below : k < n
  pub holds : row_inside (sequence_range E k) row ≡ true
  pub none_after : (j : ℕ) → k < j → j < n → row_inside (sequence_range E j) row ≡ false

pub sequence_nothing : (E : Encoding) (row n : ℕ) → sequence_at E row n ≡ nothing → (j : ℕ) → j < n → row_inside (sequence_range E j) row ≡ false
unfolding sequence_at
sequence_nothing E row zero e j h = absurd (omega arith)
sequence_nothing E row (suc n) e j h = go (row_inside (sequence_range E n) row) refl e (λ s. sequence_nothing E row n s j) (eqb j n) refl
  where
    go : (b : Bool) → row_inside (sequence_range E n) row ≡ b → cond b (some n) (sequence_at E row n) ≡ nothing → (sequence_at E row n ≡ nothing → j < n → row_inside (sequence_range E j) row ≡ false) → (c : Bool) → eqb j n ≡ c → row_inside (sequence_range E j) row ≡ false
    go true b s rest c d = absurd (not_found s refl)
    go false b s rest true d = ap (λ (k : ℕ). row_inside (sequence_range E k) row) (eqb-true j n d) ∙ b
    go false b s rest false d = rest s (below_last_lem j n h (eqb-false j n d))

pub sequence_found_lem : (E : Encoding) (row n k : ℕ) → sequence_at E row n ≡ some k → LastWithin E row n k
unfolding sequence_at
sequence_found_lem E row zero k e = absurd (not_found refl e)
sequence_found_lem E row (suc n) k e = go (row_inside (sequence_range E n) row) refl e (sequence_found_lem E row n k)
  where
    last : n ≡ k → row_inside (sequence_range E n) row ≡ true → LastWithin E row (suc n) k
    last e b = record { below = omega arith; holds = ap (λ (j : ℕ). row_inside (sequence_range E j) row) (sym e) ∙ b; none_after = λ j a h. absurd (omega arith) }

    earlier : row_inside (sequence_range E n) row ≡ false → LastWithin E row n k → LastWithin E row (suc n) k
    earlier b f = record { below = omega arith; holds = f.holds; none_after = λ j a h. after j a h (eqb j n) refl }
      where
        after : (j : ℕ) → k < j → j < suc n → (c : Bool) → eqb j n ≡ c → row_inside (sequence_range E j) row ≡ false
        after j a h true d = ap (λ (i : ℕ). row_inside (sequence_range E i) row) (eqb-true j n d) ∙ b
        after j a h false d = f.none_after j a (below_last_lem j n h (eqb-false j n d))

    go : (b : Bool) → row_inside (sequence_range E n) row ≡ b → cond b (some n) (sequence_at E row n) ≡ some k → (sequence_at E row n ≡ some k → LastWithin E row n k) → LastWithin E row (suc n) k
    go true b s rest = last (cc) b
    go false b s rest = earlier b (rest s)
