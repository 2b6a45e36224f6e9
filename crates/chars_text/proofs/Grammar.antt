-- What the grammar says of a character by its first byte: how many bytes it has, and the range of the second; the others are
-- tails. Assumes nothing.
use mathlib.Core.Path.{◌≡◌, sym, ◌∙◌}
use mathlib.Core.Logic.{⊎_elim}
use Prim.Native.Nat.{ℕ, ◌≤◌, ◌<◌}
use native.Mathlib.Omega.{arith}
use mathlib.Core.List.{List, ◌∷◌}
use borrow.Author.Tests.{lt-ltb, le-ltb, ne_eqb}
use Rattle.lists.proofs.Numbers.{either}
use Rattle.chars_text.specs.Utf8.{octets, character}
use Rattle.chars_text.specs.Promises.{width_by, low_by, high_by, sized}
use Rattle.chars_text.proofs.Rows.{one, none_low, two, three_low, three_high, four, none_high}

module _ (first : ℕ) (text : List ℕ) where
  Told : Type 0
  Told = character (first ∷ text) ≡ sized (width_by first) (low_by first) (high_by first) text

  -- where the second byte may be any tail
  plain : (first ≡ 0xE0 → ⊥) → (first ≡ 0xED → ⊥) → (first ≡ 0xF0 → ⊥) → (first ≡ 0xF4 → ⊥) → (width : ℕ)
      → sized width 0x80 0xBF text ≡ sized width (low_by first) (high_by first) text
  plain e0 ed f0 f4 width = simp (ne_eqb first 0xE0 e0, ne_eqb first 0xED ed, ne_eqb first 0xF0 f0, ne_eqb first 0xF4 f4)

  at_E0 : first ≡ 0xE0 → Told
  unfolding Told character octets
  at_E0 e = rw e

  at_ED : first ≡ 0xED → Told
  unfolding Told character octets
  at_ED e = rw e

  at_F0 : first ≡ 0xF0 → Told
  unfolding Told character octets
  at_F0 e = rw e

  at_F4 : first ≡ 0xF4 → Told
  unfolding Told character octets
  at_F4 e = rw e

  to_7_f : first < 0x80 → Told
  unfolding Told
  to_7_f h = one first text h ∙ sym (rw (lt-ltb first 0x80 h))

  to_C1 : 0x80 ≤ first → first < 0xC2 → Told
  unfolding Told
  to_C1 low high = none_low first text low high ∙ sym (rw (le-ltb first 0x80 low, lt-ltb first 0xC2 high))

  to_DF : 0xC2 ≤ first → first < 0xE0 → Told
  unfolding Told
  to_DF low high =
      two first text low high ∙ plain (λ e. omega arith) (λ e. omega arith) (λ e. omega arith) (λ e. omega arith) 2
      ∙ sym (rw (le-ltb first 0x80 (omega arith), le-ltb first 0xC2 low, lt-ltb first 0xE0 high))

  from_E0 : 0xE0 ≤ first → first < 0xF0 → (first ≡ 0xE0 → ⊥) → (first ≡ 0xED → ⊥) → character (first ∷ text) ≡ sized 3 0x80 0xBF text → Told
  unfolding Told
  from_E0 low high e0 ed e =
      e ∙ plain e0 ed (λ e. omega arith) (λ e. omega arith) 3
      ∙ sym (rw (le-ltb first 0x80 (omega arith), le-ltb first 0xC2 (omega arith), le-ltb first 0xE0 low, lt-ltb first 0xF0 high))

  from_F0 : 0xF0 < first → first < 0xF4 → Told
  unfolding Told
  from_F0 low high =
      four first text low high ∙ plain (λ e. omega arith) (λ e. omega arith) (λ e. omega arith) (λ e. omega arith) 4
      ∙ sym (rw (le-ltb first 0x80 (omega arith), le-ltb first 0xC2 (omega arith), le-ltb first 0xE0 (omega arith), le-ltb first 0xF0 (omega arith), lt-ltb first 0xF5 (omega arith)))

  from_F5 : 0xF5 ≤ first → Told
  unfolding Told
  from_F5 low =
      none_high first text low
      ∙ sym (rw (le-ltb first 0x80 (omega arith), le-ltb first 0xC2 (omega arith), le-ltb first 0xE0 (omega arith), le-ltb first 0xF0 (omega arith), le-ltb first 0xF5 low))

  -- one case for a first byte below a number, one for the others
  below : (n : ℕ) → (first < n → Told) → (n ≤ first → Told) → Told
  below n under over = ⊎_elim over under (either n first)

  pub by_first : character (first ∷ text) ≡ sized (width_by first) (low_by first) (high_by first) text
  unfolding Told
  by_first =
      below 0x80 to_7_f
      (λ h80. below 0xC2 (to_C1 h80)
      (λ hC2. below 0xE0 (to_DF hC2)
      (λ hE0. below 0xE1 (λ l. at_E0 (omega arith))
      (λ hE1. below 0xED (λ l. from_E0 hE0 (omega arith) (λ e. omega arith) (λ e. omega arith) (three_low first text hE1 l))
      (λ hED. below 0xEE (λ l. at_ED (omega arith))
      (λ hEE. below 0xF0 (λ l. from_E0 hE0 l (λ e. omega arith) (λ e. omega arith) (three_high first text hEE l))
      (λ hF0. below 0xF1 (λ l. at_F0 (omega arith))
      (λ hF1. below 0xF4 (from_F0 hF1)
      (λ hF4. below 0xF5 (λ l. at_F4 (omega arith)) from_F5)))))))))
