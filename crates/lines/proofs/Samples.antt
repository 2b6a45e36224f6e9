-- Worked examples of reading a number, as one list with one claim over its entries. Assumes nothing.
use Prim.Native.Nat.{ℕ}
use mathlib.Core.Path.{◌≡◌, refl}
use mathlib.Core.List.{List, [], ◌∷◌}
use Rattle.lines.specs.declared.Number.{Number}
use Rattle.std.specs.Prelude.{Option, Some, None}
use Rattle.lines.specs.Decimal.{number_at, digits_of, decimal_after}

-- a text, a place in it, and the number there
pub record Sample : Type 0 where
  pub text : List ℕ
  pub at : ℕ
  pub answer : Option Number

-- `0`, the largest, one more; ten digits, eleven; no text; a number within a line, the space before it, past the end
abbrev pub samples : List Sample
samples =
    record { text = 48 ∷ []; at = 0; answer = Some (record { value = 0; next = 1 }) }
    ∷ record { text = 52 ∷ 50 ∷ 57 ∷ 52 ∷ 57 ∷ 54 ∷ 55 ∷ 50 ∷ 57 ∷ 53 ∷ []; at = 0; answer = Some (record { value = 4294967295; next = 10 }) }
    ∷ record { text = 52 ∷ 50 ∷ 57 ∷ 52 ∷ 57 ∷ 54 ∷ 55 ∷ 50 ∷ 57 ∷ 54 ∷ []; at = 0; answer = None }
    ∷ record { text = 48 ∷ 48 ∷ 48 ∷ 48 ∷ 48 ∷ 48 ∷ 48 ∷ 48 ∷ 49 ∷ 50 ∷ []; at = 0; answer = Some (record { value = 12; next = 10 }) }
    ∷ record { text = 48 ∷ 48 ∷ 48 ∷ 48 ∷ 48 ∷ 48 ∷ 48 ∷ 48 ∷ 48 ∷ 49 ∷ 50 ∷ []; at = 0; answer = None }
    ∷ record { text = []; at = 0; answer = None }
    ∷ record { text = 49 ∷ 48 ∷ 32 ∷ 52 ∷ 32 ∷ 82 ∷ []; at = 3; answer = Some (record { value = 4; next = 4 }) }
    ∷ record { text = 49 ∷ 48 ∷ 32 ∷ 52 ∷ 32 ∷ 82 ∷ []; at = 2; answer = None }
    ∷ record { text = 49 ∷ 48 ∷ []; at = 7; answer = None }
    ∷ []

abbrev pub Right : List Sample → Type 0
Right [] = Unit {0}
Right (s ∷ ss) = (number_at s.text s.at ≡ s.answer) × Right ss

pub all_right : Right samples
unfolding digits_of decimal_after
all_right = (refl, (refl, (refl, (refl, (refl, (refl, (refl, (refl, (refl, tt)))))))))
