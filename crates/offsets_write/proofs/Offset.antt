-- One offset converted: what it becomes by the stretch that has it. Assumes nothing.
use mathlib.Core.Path.{◌≡◌, refl, sym, ◌∙◌}
use mathlib.Core.Bool.{true}
use Prim.Native.Nat.{ℕ, ◌+◌, ◌-◌, ◌≤◌}
use native.Mathlib.Omega.{arith}
use mathlib.Core.List.{List, flatten}
use lib.ListN.{length, take, length-take}
use Rattle.chars_text.specs.Characters.{well_formed, starts}
use Rattle.chars_text.proofs.Starts.{starts_few}
use Rattle.chars_text.proofs.Texts.{before_starts}
use Rattle.chars_back.proofs.Nth.{place_nth, nth_inside}
use Rattle.chars_places.specs.Lengths.{text_largest}
use Rattle.chars_stretch.specs.declared.Stretch.{Stretch}
use Rattle.chars_stretch.specs.Promises.{Holds}
use Rattle.chars_stretch.proofs.Stretches.{point}
use Rattle.offsets_trees.specs.declared.Way.{Way}
use Rattle.offsets_trees.specs.declared.Way.TheVariants.{ToCharacters, ToBytes}
use Rattle.offsets_trees.specs.Offsets.{convert_by}
use Rattle.offsets_write.specs.Promises.{StretchedBy}

module _ (text : List ℕ) (well : well_formed text ≡ true) where
  pub stretched_start : (way : Way) → StretchedBy way text (record { from = 0; to = 0; base = 0 })
  unfolding starts flatten
  stretched_start ToCharacters = point _ _ 0 0 (omega arith) refl
  stretched_start ToBytes = point _ _ 0 0 (omega arith) (sym (place_nth text well 0))

  module _ {s : Stretch} (offset : ℕ) (h : Holds s offset) where
    pub becomes : (way : Way) → StretchedBy way text s → s.base + (offset - s.from) ≡ convert_by way text offset
    becomes ToCharacters along = sym (along.along offset h) ∙ sym (before_starts text well offset)
    becomes ToBytes along = sym (along.along offset h) ∙ sym (place_nth text well offset)

    pub fits : (way : Way) → StretchedBy way text s → length text ≤ text_largest → s.base + (offset - s.from) ≤ text_largest
    fits ToCharacters along short = omega (arith, along.along offset h, starts_few (take offset text), length-take offset text)
    fits ToBytes along short = omega (arith, along.along offset h, nth_inside offset text)
