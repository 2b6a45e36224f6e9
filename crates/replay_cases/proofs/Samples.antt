-- Worked examples of reading a line's numbers, as one list with one claim over its entries. Assumes nothing.
use Prim.Native.Nat.{ℕ}
use mathlib.Core.Path.{◌≡◌, refl}
use mathlib.Core.List.{List, [], ◌∷◌}
use Rattle.lines.specs.Decimal.{digits_of, decimal_after}
use Rattle.replay_cases.specs.Case.{Case, unreadable, numbers, case_of, case_from}

-- a line, and the case that it is
pub record Sample : Type 0 where
  pub line : List ℕ
  pub answer : Case

-- one number, three; no text, a space at the end, one at the start, two in a row, a comma
abbrev pub samples : List Sample
samples =
    record { line = 55 ∷ []; answer = numbers (7 ∷ []) }
    ∷ record { line = 49 ∷ 32 ∷ 50 ∷ 50 ∷ 32 ∷ 48 ∷ []; answer = numbers (1 ∷ 22 ∷ 0 ∷ []) }
    ∷ record { line = []; answer = unreadable }
    ∷ record { line = 49 ∷ 32 ∷ []; answer = unreadable }
    ∷ record { line = 32 ∷ 49 ∷ []; answer = unreadable }
    ∷ record { line = 49 ∷ 32 ∷ 32 ∷ 50 ∷ []; answer = unreadable }
    ∷ record { line = 49 ∷ 44 ∷ 50 ∷ []; answer = unreadable }
    ∷ []

abbrev pub Right : List Sample → Type 0
Right [] = Unit {0}
Right (s ∷ ss) = (case_of s.line ≡ s.answer) × Right ss

pub all_right : Right samples
unfolding case_from digits_of decimal_after
all_right = (refl, (refl, (refl, (refl, (refl, (refl, (refl, tt)))))))
