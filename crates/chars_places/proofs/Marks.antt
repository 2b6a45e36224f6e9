-- Marks in a text: at its beginning, and counting on from one. Assumes nothing.
use mathlib.Core.Path.{◌≡◌, refl, ap, sym, ◌∙◌}
use Prim.Native.Nat.{ℕ, ◌+◌, ◌-◌, ◌≤◌}
use native.Mathlib.Omega.{arith}
use mathlib.Core.List.{List}
use lib.ListN.{take, drop, length-take}
use Rattle.chars_text.specs.Characters.{starts}
use Rattle.chars_text.proofs.Starts.{starts_on, starts_few}
use Rattle.chars_places.specs.declared.Mark.{Mark}
use Rattle.chars_places.specs.Promises.{Marked}

pub marked_start : (text : List ℕ) → Marked text (record { place = 0; count = 0 })
unfolding starts
marked_start text = record { inside = omega arith; counted = refl }

module _ {text : List ℕ} {mark : Mark} (m : Marked text mark) where
  -- what is counted up to the mark, and on from there
  pub counted_on : (place more : ℕ) → mark.place ≤ place → more ≡ starts (take (place - mark.place) (drop mark.place text)) → mark.count + more ≡ starts (take place text)
  counted_on place more h e =
      let there : mark.place + (place - mark.place) ≡ place = omega arith in
      ap (λ (n : ℕ). n + more) m.counted
      ∙ ap (◌+◌ (starts (take mark.place text))) e
      ∙ sym (starts_on text mark.place (place - mark.place))
      ∙ ap (λ (n : ℕ). starts (take n text)) there

  -- no more than there are bytes
  pub counted_few : (place more : ℕ) → mark.place ≤ place → more ≡ starts (take (place - mark.place) (drop mark.place text)) → mark.count + more ≤ place
  counted_few place more h e = omega (arith, counted_on place more h e, starts_few (take place text), length-take place text)
