-- A number that is being read: where its digits start, what holds after each digit, and the answer at each way out.
-- Assumes nothing.
use mathlib.Core.Path.{◌≡◌, refl, ap, sym, ◌∙◌}
use mathlib.Core.Bool.{true, false, and-false}
use Prim.Native.Nat.{ℕ, ◌+◌, ◌-◌, ◌*◌, ◌≤◌, ◌<◌}
use native.Mathlib.Numerals.{add-one}
use native.Mathlib.Omega.{arith}
use mathlib.Core.List.{List, [], ◌∷◌}
use lib.ListN.{length, get_or, drop, drop_of_length-le, length-drop}
use lib.Seq.{drop-cons}
use borrow.Author.Tests.{eq-eqb, ne_eqb, le-leb, lt-leb}
use Rattle.record.specs.Read.{all_ok}
use Rattle.lines.specs.Decimal.{zero_byte, nine_byte, is_digit, decimal, decimal_after, largest_u32}
use Rattle.lines.proofs.Digits.{decimal_at_least}
use Rattle.template_numbers.specs.Number.{plus, after_sign, u32_of, read_number, number_answer}
use Rattle.template_numbers.specs.Promises.{SignPassed}
use Rattle.std.specs.Prelude.{Some, None}

-- ---- Where the digits start

pub sign_empty : (text : List ℕ) → length text ≡ 0 → SignPassed text 0
unfolding after_sign
sign_empty [] h = record { inside = omega arith; digits = refl }
sign_empty (byte ∷ text) h = absurd (omega arith)

pub sign_plus : (text : List ℕ) → (length text ≡ 0 → ⊥) → get_or text 0 0 ≡ plus → SignPassed text 1
unfolding after_sign
sign_plus [] h e = absurd (h refl)
sign_plus (byte ∷ text) h e = record { inside = omega arith; digits = rw (eq-eqb byte plus e) }

pub sign_none : (text : List ℕ) → (length text ≡ 0 → ⊥) → (get_or text 0 0 ≡ plus → ⊥) → SignPassed text 0
unfolding after_sign
sign_none [] h e = absurd (h refl)
sign_none (byte ∷ text) h e = record { inside = omega arith; digits = rw (ne_eqb byte plus e) }

-- ---- A number that is being read

-- The digits before place i have this value, and the rest are those from i on.
pub record Reading (text : List ℕ) (i value : ℕ) : Type 0 where
  pub inside : i ≤ length text
  pub some_digit : 1 ≤ length (after_sign text)
  pub small : value ≤ largest_u32
  pub only : all_ok is_digit (after_sign text) ≡ all_ok is_digit (drop i text)
  pub whole : decimal (after_sign text) ≡ decimal_after value (drop i text)

module _ {text : List ℕ} {start : ℕ} (s : SignPassed text start) where
  pub begin : (start ≡ length text → ⊥) → Reading text start 0
  begin h =
      let long : length (after_sign text) ≡ length text - start = ap length (sym s.digits) ∙ length-drop start text in
      record { inside = s.inside; some_digit = omega (arith, s.inside); small = omega arith; only = ap (all_ok is_digit) (sym s.digits); whole = ap decimal (sym s.digits) }

  pub no_digits : start ≡ length text → None ≡ number_answer (read_number text)
  unfolding read_number number_answer
  no_digits h =
      let none : length (after_sign text) ≡ 0 = omega (arith, ap length (sym s.digits) ∙ length-drop start text) in
      rw none

-- something that is no digit, or a value that is too large
not_only : (digits : List ℕ) → all_ok is_digit digits ≡ false → None ≡ number_answer (u32_of digits)
unfolding number_answer
not_only digits e = rw (e, and-false)

not_small : (digits : List ℕ) → largest_u32 < decimal digits → None ≡ number_answer (u32_of digits)
unfolding number_answer
not_small digits h = rw (lt-leb (decimal digits) largest_u32 h, and-false, and-false)

module _ {text : List ℕ} {i value : ℕ} (r : Reading text i value) where
  module _ (h : i < length text) where
    pub ends_below : get_or text i 0 < zero_byte → None ≡ number_answer (read_number text)
    unfolding read_number number_answer
    ends_below low = not_only (after_sign text) (r.only ∙ rw (drop-cons text i 0 h, lt-leb zero_byte (get_or text i 0) low))

    pub ends_above : zero_byte ≤ get_or text i 0 → nine_byte < get_or text i 0 → None ≡ number_answer (read_number text)
    unfolding read_number number_answer
    ends_above low high = not_only (after_sign text) (r.only ∙ rw (drop-cons text i 0 h, le-leb zero_byte (get_or text i 0) low, lt-leb (get_or text i 0) nine_byte high))

    -- a digit stands at i
    module _ (low : zero_byte ≤ get_or text i 0) (high : get_or text i 0 ≤ nine_byte) where
      abbrev next : ℕ
      next = value * 10 + (get_or text i 0 - zero_byte)

      whole_next : decimal (after_sign text) ≡ decimal_after next (drop (i + 1) text)
      unfolding decimal_after
      whole_next = r.whole ∙ rw (add-one, drop-cons text i 0 h)

      pub more : next ≤ largest_u32 → Reading text (i + 1) next
      more small = record { inside = omega arith; some_digit = r.some_digit; small = small; only = r.only ∙ rw (add-one, drop-cons text i 0 h, le-leb zero_byte (get_or text i 0) low, le-leb (get_or text i 0) nine_byte high); whole = whole_next }

      pub ends_too_large : largest_u32 < next → None ≡ number_answer (read_number text)
      unfolding read_number number_answer
      ends_too_large large = not_small (after_sign text) (omega (arith, whole_next, decimal_at_least next (drop (i + 1) text)))

  pub ends_with : length text ≤ i → Some value ≡ number_answer (read_number text)
  unfolding decimal_after read_number number_answer
  ends_with h =
      let value_is : decimal (after_sign text) ≡ value = r.whole ∙ rw (drop_of_length-le text h) in
      let all : all_ok is_digit (after_sign text) ≡ true = r.only ∙ rw (drop_of_length-le text h) in
      rw (le-leb 1 (length (after_sign text)) r.some_digit, all, value_is, le-leb value largest_u32 r.small)
