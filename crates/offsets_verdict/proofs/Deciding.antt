-- The verdict on a batch is that on its rows as they are stored. Assumes nothing.
use mathlib.Core.Path.{◌≡◌, refl, ap, sym, ◌∙◌}
use mathlib.Core.Bool.{Bool, true, false, ◌&&◌, false≢true}
use Prim.Native.Nat.{ℕ, ◌-◌, ◌≤◌}
use native.Mathlib.Omega.{arith}
use mathlib.Core.List.{List}
use lib.Dec.{leb}
use lib.ListN.{length, take}
use lib.Seq.{take-length}
use borrow.Author.Tests.{leb-true}
use Rattle.record.specs.Tree.{Row, Forest}
use Rattle.record.specs.Read.{Reading, malformed, holds, read}
use Rattle.record.proofs.Walk.{rows_stored}
use Rattle.chars_text.specs.Characters.{characters, well_formed, starts}
use Rattle.chars_text.proofs.Texts.{characters_starts}
use Rattle.chars_places.specs.Lengths.{text_largest}
use Rattle.offsets_check.specs.Promises.{CountedText}
use Rattle.offsets_trees.specs.declared.Way.{Way}
use Rattle.offsets_trees.specs.Offsets.{fault_by, rows_fault, batch_fault}
use Rattle.record_check.specs.Answers.{shape_of}
use Rattle.std.specs.Prelude.{Ok}
use Rattle.offsets_verdict.specs.Verdicts.{is_text, of_fault, verdict_of}
use Rattle.offsets_verdict.specs.Promises.{rows_verdict}

-- ---- The text

pub text_both : (text : List ℕ) → is_text text ≡ true → (length text ≤ text_largest) × (well_formed text ≡ true)
text_both text e = go (leb (length text) text_largest) refl e
  where
    go : (t : Bool) → leb (length text) text_largest ≡ t → t && well_formed text ≡ true → (length text ≤ text_largest) × (well_formed text ≡ true)
    go true t e = (leb-true (length text) text_largest t, e)
    go false t e = absurd (false≢true e)

pub text_counted : (text : List ℕ) → is_text text ≡ true → (total : ℕ) → total ≡ starts (take (length text - 0) text) → CountedText text total
text_counted text e total is =
    let whole : length text - 0 ≡ length text = omega arith in
    record { well = (text_both text e).1; all = is ∙ ap (λ (n : ℕ). starts (take n text)) whole ∙ ap starts (take-length text) ∙ sym (characters_starts text (text_both text e).1) }

-- ---- The batch

pub is_read : {n : ℕ} (r : Reading) → shape_of r ≡ Ok n → (f : Forest) × (r ≡ holds f)
is_read malformed e = let never : ◌≡◌ {A = ℕ} 0 1 = cc in absurd (omega arith)
is_read (holds f) e = (f, refl)

module _ (way : Way) (nodes rows text : List ℕ) {n : ℕ} (shape : shape_of (read nodes rows) ≡ Ok n) where
  pub verdict_rows : is_text text ≡ true → rows_verdict way rows text ≡ verdict_of way (read nodes rows) text
  verdict_rows text_ok =
      let there = is_read (read nodes rows) shape in
      ap (λ (R : List Row). of_fault (rows_fault (fault_by way text) R) (length (characters text))) (rows_stored nodes rows there.0 there.1)
      ∙ accepted there.0
      ∙ ap (λ (r : Reading). verdict_of way r text) (sym there.1)
    where
      accepted : (f : Forest) → of_fault (batch_fault (fault_by way text) f) (length (characters text)) ≡ verdict_of way (holds f) text
      accepted f = rw text_ok
