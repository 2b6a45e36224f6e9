-- The offsets of a row converted where they stand, one after the other. Assumes nothing.
use Rattle.std.specs.Prelude.{Option, None}
use mathlib.Core.Path.{◌≡◌, refl, ap, ap₂, sym, ◌∙◌}
use Prim.Native.Nat.{ℕ, zero, suc, ◌+◌, ◌≤◌, ◌<◌}
use native.Mathlib.Numerals.{add-one}
use native.Mathlib.Omega.{arith}
use mathlib.Core.List.{List}
use lib.ListN.{length, get_or, set, drop, length-set}
use lib.Seq.{get_or-drop, get_or-set_other}
use Rattle.record.specs.Flat.{row_at}
use Rattle.offsets_trees.specs.declared.Fault.{Fault}
use Rattle.offsets_trees.specs.Offsets.{row_fault}
use Rattle.offsets_trees.proofs.RoundTrips.{earlier_both}
use Rattle.offsets_write.specs.Promises.{row_converted}

module _ (fault : ℕ → Option Fault) (rows : List ℕ) (at : ℕ) (fine : row_fault fault (row_at (drop at rows)) ≡ None) where
  both : (fault (get_or (drop at rows) 7 0) ≡ None) × (fault (get_or (drop at rows) 8 0) ≡ None)
  unfolding row_at
  both = earlier_both (fault (get_or (drop at rows) 7 0)) (fault (get_or (drop at rows) 8 0)) fine

  pub column_fine : (n : ℕ) → n < 2 → fault (get_or rows (at + 7 + n) 0) ≡ None
  column_fine zero h =
      let there : at + 7 + 0 ≡ at + 7 = omega arith in
      ap (λ (n : ℕ). fault (get_or rows n 0)) there ∙ ap fault (sym (get_or-drop at rows 7 0)) ∙ both.0
  column_fine (suc zero) h =
      let there : at + 7 + 1 ≡ at + 8 = omega arith in
      ap (λ (n : ℕ). fault (get_or rows n 0)) there ∙ ap fault (sym (get_or-drop at rows 8 0)) ∙ both.1
  column_fine (suc (suc n)) h = absurd (omega arith)

-- the number at a place converted
abbrev number_converted : (ℕ → ℕ) → List ℕ → ℕ → List ℕ
number_converted convert rows place = set rows place (convert (get_or rows place 0))

module _ (convert : ℕ → ℕ) (rows : List ℕ) (at : ℕ) where
  -- the first offsets of the row converted
  abbrev pub columns_done : ℕ → List ℕ
  columns_done zero = rows
  columns_done (suc n) = number_converted convert (columns_done n) (at + 7 + n)

  -- the others are as they were
  pub column_still : (n : ℕ) → n < 2 → get_or (columns_done n) (at + 7 + n) 0 ≡ get_or rows (at + 7 + n) 0
  column_still zero h = refl
  column_still (suc zero) h = get_or-set_other rows (at + 7 + 0) (at + 7 + 1) (convert (get_or rows (at + 7 + 0) 0)) 0 (λ e. omega (arith, e))
  column_still (suc (suc n)) h = absurd (omega arith)

  columns_all : columns_done 2 ≡ row_converted convert rows at
  columns_all =
      let first : at + 7 + 0 ≡ at + 7 = omega arith in
      let second : at + 7 + 1 ≡ at + 8 = omega arith in
      ap (λ (v : ℕ). set (columns_done 1) (at + 7 + 1) (convert v)) (column_still 1 (omega arith))
      ∙ ap₂ (λ (m : ℕ) (n : ℕ). set (number_converted convert rows m) n (convert (get_or rows n 0))) first second

  -- So many offsets of the row are converted.
  pub record Columns (n : ℕ) (now : List ℕ) : Type 0 where
    pub few : n ≤ 2
    pub is : now ≡ columns_done n

  pub columns_start : Columns 0 rows
  columns_start = record { few = omega arith; is = refl }

  module _ {n : ℕ} {now : List ℕ} (k : Columns n now) where
    pub columns_length : length now ≡ length rows
    columns_length = ap length k.is ∙ go n
      where
        go : (m : ℕ) → length (columns_done m) ≡ length rows
        go zero = refl
        go (suc m) = length-set (columns_done m) (at + 7 + m) (convert (get_or (columns_done m) (at + 7 + m) 0)) ∙ go m

    -- what stands at the next place
    pub columns_there : n < 2 → get_or now (at + 7 + n) 0 ≡ get_or rows (at + 7 + n) 0
    columns_there h = ap (λ (l : List ℕ). get_or l (at + 7 + n) 0) k.is ∙ column_still n h

    pub columns_next : (value : ℕ) → n < 2 → value ≡ convert (get_or now (at + 7 + n) 0) → Columns (n + 1) (set now (at + 7 + n) value)
    columns_next value h e =
        record { few = omega arith; is = rw (add-one, e) (ap (λ (l : List ℕ). number_converted convert l (at + 7 + n)) k.is) }

    pub columns_end : 2 ≤ n → now ≡ row_converted convert rows at
    columns_end h =
        let all : n ≡ 2 = omega (arith, k.few) in
        k.is ∙ ap columns_done all ∙ columns_all
