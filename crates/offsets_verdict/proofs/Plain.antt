-- In a text of as many characters as bytes both ways ask the same of an offset. Assumes nothing.
use Rattle.std.specs.Prelude.{Option, None, Some}
use mathlib.Core.Path.{◌≡◌, refl, ap, ap₂, sym, ◌∙◌}
use mathlib.Core.Bool.{Bool, true, false, cond}
use Prim.Native.Nat.{ℕ}
use mathlib.Core.List.{List, [], ◌∷◌}
use lib.Dec.{eqb, leb}
use lib.ListN.{length}
use borrow.Author.Tests.{eqb-true, leb-true}
use Rattle.record.specs.Tree.{Row}
use Rattle.chars_text.specs.Characters.{characters, well_formed, is_start}
use Rattle.chars_text.proofs.Plain.{start_same}
use Rattle.offsets_check.specs.Promises.{CountedText}
use Rattle.offsets_trees.specs.declared.Way.{Way}
use Rattle.offsets_trees.specs.declared.Way.TheVariants.{ToCharacters, ToBytes}
use Rattle.offsets_trees.specs.declared.Fault.{Fault}
use Rattle.offsets_trees.specs.declared.Fault.TheVariants.{PastEnd, InsideCharacter}
use Rattle.offsets_trees.specs.Offsets.{byte_fault, char_fault, fault_by, earlier, rows_fault}
use Rattle.offsets_verdict.specs.Promises.{looked_at}

-- what is asked of each offset decides what is wrong with the rows
rows_alike : (f g : ℕ → Option Fault) → ((offset : ℕ) → f offset ≡ g offset) → (rows : List Row) → rows_fault f rows ≡ rows_fault g rows
unfolding rows_fault
rows_alike f g alike [] = refl
rows_alike f g alike (r ∷ rows) = ap₂ earlier (ap₂ earlier (alike r.offset_start) (alike r.offset_end)) (rows_alike f g alike rows)

module _ (text : List ℕ) (well : well_formed text ≡ true) (plain : length (characters text) ≡ length text) where
  fault_same : (offset : ℕ) → char_fault text offset ≡ byte_fault text offset
  fault_same offset = ap (λ (n : ℕ). cond (leb offset n) None (Some PastEnd)) plain ∙ go (leb offset (length text)) refl
    where
      go : (t : Bool) → leb offset (length text) ≡ t → cond t None (Some PastEnd) ≡ cond t (cond (is_start text offset) None (Some InsideCharacter)) (Some PastEnd)
      go true e = sym (ap (λ (b : Bool). cond b None (Some InsideCharacter)) (start_same text well plain offset (leb-true offset (length text) e)))
      go false e = refl

  ways_same : (way : Way) (rows : List Row) → rows_fault (fault_by ToBytes text) rows ≡ rows_fault (fault_by way text) rows
  ways_same ToCharacters rows = rows_alike (char_fault text) (byte_fault text) fault_same rows
  ways_same ToBytes rows = refl

-- the way that is looked at tells of the way that is asked
pub looked_same : {text : List ℕ} {total : ℕ} → CountedText text total → (way : Way) (rows : List Row)
    → rows_fault (fault_by (looked_at way (length text) total) text) rows ≡ rows_fault (fault_by way text) rows
looked_same {text} {total} k way rows = go (eqb total (length text)) refl
  where
    go : (t : Bool) → eqb total (length text) ≡ t → rows_fault (fault_by (cond t ToBytes way) text) rows ≡ rows_fault (fault_by way text) rows
    go true e = ways_same text k.well (sym k.all ∙ eqb-true total (length text) e) way rows
    go false e = refl
