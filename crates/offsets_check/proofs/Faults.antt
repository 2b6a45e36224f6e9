-- The faults of one offset, of one row, of one row after another. Assumes nothing.
use Rattle.std.specs.Prelude.{Option, None, Some, is_some}
use mathlib.Core.Path.{◌≡◌, refl, ap, ap₂, sym, ◌∙◌}
use mathlib.Core.Bool.{Bool, true, false, cond, not, false≢true, true≢false}
use Prim.Native.Nat.{ℕ, suc, ◌+◌, ◌-◌, ◌*◌, ◌≤◌, ◌<◌}
use native.Mathlib.Nat.{zero-mul}
use native.Mathlib.Omega.{arith}
use mathlib.Core.List.{List}
use lib.ListN.{length, get_or, drop}
use lib.Seq.{drop-drop, get_or-drop}
use borrow.Author.Tests.{le-leb}
use Rattle.record.specs.Flat.{row_width, row_at}
use Rattle.record.specs.Read.{several}
use Rattle.chars_text.specs.Utf8.{tail}
use Rattle.chars_text.specs.Characters.{well_formed}
use Rattle.chars_text.proofs.Texts.{start_byte, start_end}
use Rattle.offsets_trees.specs.declared.Fault.{Fault}
use Rattle.offsets_trees.specs.declared.Fault.TheVariants.{InsideCharacter}
use Rattle.offsets_trees.specs.Offsets.{byte_fault, earlier, row_fault, rows_fault}

-- ---- One offset

module _ (text : List ℕ) (offset : ℕ) where
  module _ (well : well_formed text ≡ true) where
    pub byte_end : offset ≡ length text → None ≡ byte_fault text offset
    byte_end e = rw (e, le-leb (length text) (length text) (omega arith), start_end text well)

    byte_here : offset < length text → (t : Bool) → tail (get_or text offset 0) ≡ t → byte_fault text offset ≡ cond (not t) None (Some InsideCharacter)
    byte_here h t e = rw (le-leb offset (length text) (omega arith), start_byte text well offset h, e)

    pub byte_inside : offset < length text → tail (get_or text offset 0) ≡ true → Some InsideCharacter ≡ byte_fault text offset
    byte_inside h e = sym (byte_here h true e)

    pub byte_start : offset < length text → tail (get_or text offset 0) ≡ false → None ≡ byte_fault text offset
    byte_start h e = sym (byte_here h false e)

-- ---- One row

pub fault_first : (a b : Option Fault) → is_some a ≡ true → a ≡ earlier a b
fault_first None b e = absurd (false≢true e)
fault_first (Some fault) b e = refl

pub fault_second : (a b : Option Fault) → is_some a ≡ false → b ≡ earlier a b
fault_second None b e = refl
fault_second (Some fault) b e = absurd (true≢false e)

-- what is wrong with the start, else with the end
module _ (fault : ℕ → Option Fault) (rows : List ℕ) (at : ℕ) where
  offset_number : (j : ℕ) → get_or (drop at rows) j 0 ≡ get_or rows (at + j) 0
  offset_number j = get_or-drop at rows j 0

  pub row_first : (first : Option Fault) (start : ℕ) → start ≡ get_or rows (at + 7) 0 → first ≡ fault start → is_some first ≡ true → first ≡ row_fault fault (row_at (drop at rows))
  unfolding row_at
  row_first first start s e w =
      fault_first first (fault (get_or (drop at rows) 8 0)) w
      ∙ ap (λ (a : Option Fault). earlier a (fault (get_or (drop at rows) 8 0))) (e ∙ ap fault (s ∙ sym (offset_number 7)))

  pub row_second : (first second : Option Fault) (start end : ℕ) → start ≡ get_or rows (at + 7) 0 → end ≡ get_or rows (at + 8) 0 → first ≡ fault start → second ≡ fault end
      → is_some first ≡ false → second ≡ row_fault fault (row_at (drop at rows))
  unfolding row_at
  row_second first second start end s t e f w =
      fault_second first second w
      ∙ ap₂ earlier (e ∙ ap fault (s ∙ sym (offset_number 7))) (f ∙ ap fault (t ∙ sym (offset_number 8)))

-- ---- One row after another

-- The rows passed have no fault, so those from i on decide.
pub record Checking (fault : ℕ → Option Fault) (rows : List ℕ) (count i : ℕ) : Type 0 where
  pub inside : i ≤ count
  pub same : rows_fault fault (several row_at row_width count rows) ≡ rows_fault fault (several row_at row_width (count - i) (drop (i * row_width) rows))

pub checking_start : (fault : ℕ → Option Fault) (rows : List ℕ) (count : ℕ) → Checking fault rows count 0
checking_start fault rows count =
    let all : count - 0 ≡ count = omega arith in
    record { inside = omega arith; same = rw (zero-mul row_width, all) }

module _ {fault : ℕ → Option Fault} {rows : List ℕ} {count i : ℕ} (k : Checking fault rows count i) where
  pub checking_step : i < count
      → rows_fault fault (several row_at row_width count rows)
      ≡ earlier (row_fault fault (row_at (drop (i * row_width) rows))) (rows_fault fault (several row_at row_width (count - (i + 1)) (drop ((i + 1) * row_width) rows)))
  unfolding rows_fault several
  checking_step h =
      let more : count - i ≡ suc (count - (i + 1)) = omega arith in
      let next : i * row_width + row_width ≡ (i + 1) * row_width = omega arith in
      k.same
      ∙ ap (λ (n : ℕ). rows_fault fault (several row_at row_width n (drop (i * row_width) rows))) more
      ∙ ap (λ (l : List ℕ). earlier (row_fault fault (row_at (drop (i * row_width) rows))) (rows_fault fault (several row_at row_width (count - (i + 1)) l)))
      (drop-drop row_width (i * row_width) rows ∙ ap (λ (n : ℕ). drop n rows) next)

  pub checking_found : (found : Option Fault) → i < count → found ≡ row_fault fault (row_at (drop (i * row_width) rows)) → is_some found ≡ true
      → found ≡ rows_fault fault (several row_at row_width count rows)
  checking_found found h e wrong =
      fault_first found (rows_fault fault (several row_at row_width (count - (i + 1)) (drop ((i + 1) * row_width) rows))) wrong
      ∙ ap (λ (a : Option Fault). earlier a (rows_fault fault (several row_at row_width (count - (i + 1)) (drop ((i + 1) * row_width) rows)))) e
      ∙ sym (checking_step h)

  pub checking_next : (found : Option Fault) → i < count → found ≡ row_fault fault (row_at (drop (i * row_width) rows)) → is_some found ≡ false → Checking fault rows count (i + 1)
  checking_next found h e is_fine =
      record {
        inside = omega arith;
        same =
            checking_step h
            ∙ ap (λ (a : Option Fault). earlier a (rows_fault fault (several row_at row_width (count - (i + 1)) (drop ((i + 1) * row_width) rows)))) (sym e)
            ∙ sym (fault_second found (rows_fault fault (several row_at row_width (count - (i + 1)) (drop ((i + 1) * row_width) rows))) is_fine);
      }

  pub checking_end : count ≤ i → None ≡ rows_fault fault (several row_at row_width count rows)
  unfolding rows_fault several
  checking_end h =
      let none : count - i ≡ 0 = omega arith in
      sym (k.same ∙ ap (λ (n : ℕ). rows_fault fault (several row_at row_width n (drop (i * row_width) rows))) none)
