-- In a text of as many characters as bytes every character has one byte, so places are numbers of characters. Assumes nothing.
use mathlib.Core.Path.{◌≡◌, ap, sym, ◌∙◌}
use mathlib.Core.Bool.{true}
use Prim.Native.Nat.{ℕ, ◌+◌, ◌-◌, ◌≤◌}
use native.Mathlib.Omega.{arith}
use mathlib.Core.List.{List}
use lib.ListN.{length, take, drop, length-take, length-drop}
use lib.Seq.{take-length}
use Rattle.chars_text.specs.Characters.{characters, well_formed, chars_before, place_of, is_start, starts}
use Rattle.chars_text.proofs.Starts.{starts_on, starts_few}
use Rattle.chars_text.proofs.Texts.{before_place, before_starts, characters_starts, place_inside, place_start}

module _ (text : List ℕ) (well : well_formed text ≡ true) (plain : length (characters text) ≡ length text) where
  pub before_same : (place : ℕ) → place ≤ length text → chars_before text place ≡ place
  before_same place h =
      let rest = starts (take (length text - place) (drop place text)) in
      let whole : place + (length text - place) ≡ length text = omega arith in
      let all : starts (take place text) + rest ≡ length text
      = sym (starts_on text place (length text - place))
      ∙ ap (λ (n : ℕ). starts (take n text)) whole
      ∙ ap starts (take-length text)
      ∙ sym (characters_starts text well) ∙ plain in
      before_starts text well place
      ∙ omega (
        arith,
        all,
        starts_few (take place text),
        length-take place text,
        starts_few (take (length text - place) (drop place text)),
        length-take (length text - place) (drop place text),
        length-drop place text,
      )

  pub place_same : (count : ℕ) → count ≤ length (characters text) → place_of text count ≡ count
  place_same count h = sym (before_same (place_of text count) (place_inside text well count h)) ∙ before_place text count h

  pub start_same : (place : ℕ) → place ≤ length text → is_start text place ≡ true
  start_same place h =
      let few : place ≤ length (characters text) = omega (arith, plain) in
      ap (is_start text) (sym (place_same place few)) ∙ place_start text place few
