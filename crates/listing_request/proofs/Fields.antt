-- What a line asks, field by field.
-- Assumes nothing.
use mathlib.Core.Path.{◌≡◌, sym, ap, ◌∙◌}
use Prim.Native.Nat.{ℕ, suc, ◌+◌, ◌-◌, ◌≤◌, ◌<◌}
use native.Mathlib.Omega.{arith}
use mathlib.Core.List.{List, [], ◌∷◌}
use lib.ListN.{length, get_or, drop, drop_of_length-le}
use lib.Seq.{drop-cons}
use borrow.Author.Tests.{lt-ltb, le-ltb, eq-eqb, ne_eqb}
use Rattle.cut_plan.specs.declared.Direction.TheVariants.{Left, Right}
use Rattle.lines.specs.declared.Number.{Number}
use Rattle.std.specs.Prelude.{Option, Some, None}
use Rattle.listing_request.specs.Asked.{space_byte, letter_l, letter_r, spaced, field_at, with_number, with_letter, cut_within, asked_of}
use Rattle.listing_request.specs.declared.Request.{Request}

-- ---- One field

module _ (line : List ℕ) (n : Number) where
  pub spaced_space : n.next < length line → get_or line n.next 0 ≡ space_byte → Some (record { value = n.value; next = n.next + 1 }) ≡ spaced line (Some n)
  spaced_space h e = rw (lt-ltb n.next (length line) h, eq-eqb (get_or line n.next 0) space_byte e)

  pub spaced_other : n.next < length line → (get_or line n.next 0 ≡ space_byte → ⊥) → None ≡ spaced line (Some n)
  spaced_other h e = rw (lt-ltb n.next (length line) h, ne_eqb (get_or line n.next 0) space_byte e)

  pub spaced_end : length line ≤ n.next → None ≡ spaced line (Some n)
  spaced_end h = rw (le-ltb n.next (length line) h)

-- ---- The fields one after another, and the letter

module _ (line : List ℕ) where
  abbrev from_last : ℕ → ℕ → ℕ → ℕ → Option Request
  from_last rows max stride last = with_letter (drop last line) (cut_within rows max stride)

  abbrev from_third : ℕ → ℕ → ℕ → Option Request
  from_third rows max third = with_number (field_at line third) (from_last rows max)

  abbrev from_second : ℕ → ℕ → Option Request
  from_second rows second = with_number (field_at line second) (from_third rows)

  pub asked_first : {n : Option Number} → n ≡ field_at line 0 → asked_of line ≡ with_number n from_second
  unfolding asked_of
  asked_first e = ap (λ (n : Option Number). with_number n from_second) (sym e)

  module _ {rows : Number} (e₁ : Some rows ≡ field_at line 0) where
    pub asked_second : {n : Option Number} → n ≡ field_at line rows.next → asked_of line ≡ with_number n (from_third rows.value)
    asked_second e = asked_first e₁ ∙ ap (λ (n : Option Number). with_number n (from_third rows.value)) (sym e)

    module _ {max : Number} (e₂ : Some max ≡ field_at line rows.next) where
      pub asked_third : {n : Option Number} → n ≡ field_at line max.next → asked_of line ≡ with_number n (from_last rows.value max.value)
      asked_third e = asked_second e₂ ∙ ap (λ (n : Option Number). with_number n (from_last rows.value max.value)) (sym e)

      module _ {stride : Number} (e₃ : Some stride ≡ field_at line max.next) where
        abbrev last : ℕ
        last = stride.next

        asked_last : asked_of line ≡ from_last rows.value max.value stride.value last
        asked_last = asked_third e₃

        pub asked_none : length line ≤ last → asked_of line ≡ None
        asked_none h = asked_last ∙ rw (drop_of_length-le line h)

        pub asked_more : 1 < length line - last → asked_of line ≡ None
        asked_more h = asked_last ∙ rw (drop-cons line last 0 (omega arith), drop-cons line (suc last) 0 (omega arith))

        module _ (h : last < length line) (one : length line - last ≤ 1) where
          asked_letter : asked_of line ≡ with_letter (get_or line last 0 ∷ []) (cut_within rows.value max.value stride.value)
          asked_letter = asked_last ∙ rw (drop-cons line last 0 h, drop_of_length-le line {i = suc last} (omega arith))

          pub asked_left : get_or line last 0 ≡ letter_l → asked_of line ≡ cut_within rows.value max.value stride.value Left
          asked_left e = asked_letter ∙ rw (eq-eqb (get_or line last 0) letter_l e)

          module _ (other : get_or line last 0 ≡ letter_l → ⊥) where
            pub asked_right : get_or line last 0 ≡ letter_r → asked_of line ≡ cut_within rows.value max.value stride.value Right
            asked_right e = asked_letter ∙ rw (ne_eqb (get_or line last 0) letter_l other, eq-eqb (get_or line last 0) letter_r e)

            pub asked_other : (get_or line last 0 ≡ letter_r → ⊥) → asked_of line ≡ None
            asked_other e = asked_letter ∙ rw (ne_eqb (get_or line last 0) letter_l other, ne_eqb (get_or line last 0) letter_r e)
