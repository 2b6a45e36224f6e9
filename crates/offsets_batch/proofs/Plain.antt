-- In a text of as many characters as bytes every offset stays. Assumes nothing.
use Rattle.std.specs.Prelude.{None}
use mathlib.Core.Path.{◌≡◌, refl, ap₂}
use mathlib.Core.Bool.{true}
use Prim.Native.Nat.{ℕ}
use mathlib.Core.List.{List, [], ◌∷◌, map}
use lib.ListN.{length}
use Rattle.record.specs.Tree.{Row}
use Rattle.chars_text.specs.Characters.{characters, well_formed}
use Rattle.chars_text.proofs.Plain.{before_same, place_same}
use Rattle.offsets_trees.specs.declared.Way.{Way}
use Rattle.offsets_trees.specs.declared.Way.TheVariants.{ToCharacters, ToBytes}
use Rattle.offsets_trees.specs.Offsets.{placed, with_offsets, convert_by, fault_by, row_fault, rows_fault}
use Rattle.offsets_trees.proofs.RoundTrips.{earlier_both, byte_fine, char_fine}

module _ (text : List ℕ) (well : well_formed text ≡ true) (plain : length (characters text) ≡ length text) where
  convert_same : (way : Way) (offset : ℕ) → fault_by way text offset ≡ None → convert_by way text offset ≡ offset
  convert_same ToCharacters offset fine = before_same text well plain offset (byte_fine text offset fine).0
  convert_same ToBytes offset fine = place_same text well plain offset (char_fine text offset fine)

  pub rows_same : (way : Way) (rows : List Row) → rows_fault (fault_by way text) rows ≡ None → map (with_offsets (convert_by way text)) rows ≡ rows
  unfolding rows_fault
  rows_same way [] fine = refl
  rows_same way (r ∷ rows) fine =
      let here = earlier_both (row_fault (fault_by way text) r) (rows_fault (fault_by way text) rows) fine in
      let both = earlier_both (fault_by way text r.offset_start) (fault_by way text r.offset_end) here.0 in
      ap₂ (λ (row : Row) (left : List Row). row ∷ left)
      (ap₂ (placed r) (convert_same way r.offset_start both.0) (convert_same way r.offset_end both.1))
      (rows_same way rows here.1)
