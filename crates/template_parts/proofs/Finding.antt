-- The number of bytes before the first of a kind: one step at a place of a text, its bound, and the search for it from a
-- place on. Assumes nothing.
use mathlib.Core.Path.{◌≡◌, refl}
use mathlib.Core.Bool.{Bool, true, false, cond}
use Prim.Native.Nat.{ℕ, suc, ◌+◌, ◌≤◌, ◌<◌}
use native.Mathlib.Numerals.{add-one}
use native.Mathlib.Omega.{arith}
use mathlib.Core.List.{List, [], ◌∷◌}
use lib.Dec.{eqb}
use lib.ListN.{length, get_or, drop, drop_of_length-le}
use lib.Seq.{drop-cons}
use borrow.Author.Tests.{eqb-true, eq-eqb, ne_eqb}
use Rattle.template_parts.specs.Parts.{length_to}
use Rattle.template_parts.specs.Promises.{FoundFrom}

module _ (byte : ℕ) (text : List ℕ) (i : ℕ) where
  length_to_end : length text ≤ i → length_to byte (drop i text) ≡ 0
  unfolding length_to
  length_to_end h = rw (drop_of_length-le text h)

  length_to_here : i < length text → get_or text i 0 ≡ byte → length_to byte (drop i text) ≡ 0
  unfolding length_to
  length_to_here h e = rw (drop-cons text i 0 h, length_to, eq-eqb (get_or text i 0) byte e)

  length_to_next : i < length text → (get_or text i 0 ≡ byte → ⊥) → length_to byte (drop i text) ≡ suc (length_to byte (drop (i + 1) text))
  unfolding length_to
  length_to_next h e = rw (add-one, drop-cons text i 0 h, length_to, ne_eqb (get_or text i 0) byte e)

pub length_to_most : (byte : ℕ) (text : List ℕ) → length_to byte text ≤ length text
unfolding length_to
length_to_most byte [] = omega arith
length_to_most byte (b ∷ text) = go (eqb b byte) (length_to_most byte text)
  where
    go : (here : Bool) → length_to byte text ≤ length text → cond here 0 (suc (length_to byte text)) ≤ suc (length text)
    go true h = omega arith
    go false h = omega arith

-- what stands there, unless the text ends
pub length_to_byte : (byte : ℕ) (text : List ℕ) → length_to byte text < length text → get_or text (length_to byte text) 0 ≡ byte
unfolding length_to
length_to_byte byte [] h = absurd (omega arith)
length_to_byte byte (b ∷ text) h = go (eqb b byte) refl h (length_to_byte byte text)
  where
    go : (here : Bool) → eqb b byte ≡ here → cond here 0 (suc (length_to byte text)) < suc (length text) → (length_to byte text < length text → get_or text (length_to byte text) 0 ≡ byte)
        → get_or (b ∷ text) (cond here 0 (suc (length_to byte text))) 0 ≡ byte
    go true e h rest = eqb-true b byte e
    go false e h rest = rest (omega arith)

-- The bytes from `at` up to i are of other kinds, so those from i on decide.
pub record Looking (text : List ℕ) (at byte i : ℕ) : Type 0 where
  pub after : at ≤ i
  pub inside : i ≤ length text
  pub same : at + length_to byte (drop at text) ≡ i + length_to byte (drop i text)

pub start : (text : List ℕ) (at byte : ℕ) → at ≤ length text → Looking text at byte at
start text at byte h = record { after = omega arith; inside = h; same = omega arith }

module _ {text : List ℕ} {at byte i : ℕ} (l : Looking text at byte i) where
  pub next : i < length text → (get_or text i 0 ≡ byte → ⊥) → Looking text at byte (i + 1)
  next h e = record { after = omega arith; inside = omega arith; same = omega (arith, l.same, length_to_next byte text i h e) }

  pub found : i < length text → get_or text i 0 ≡ byte → FoundFrom text at byte i
  found h e = record { place = omega (arith, l.same, length_to_here byte text i h e); after = l.after; inside = l.inside }

  pub nowhere : length text ≤ i → FoundFrom text at byte (length text)
  nowhere h = record { place = omega (arith, l.same, l.inside, length_to_end byte text i h); after = omega (arith, l.after, l.inside); inside = omega arith }
