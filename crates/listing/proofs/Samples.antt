-- Worked examples of the lister, as one list with one claim over its entries.
-- Assumes nothing.
use Prim.Native.String.{String}
use mathlib.Core.Path.{◌≡◌, refl}
use mathlib.Core.List.{List, [], ◌∷◌}
use Rattle.lists.specs.Lists.{All}
use Rattle.cut_plan.specs.Cut.{right_from, left_from, windows_of, decision_of}
use Rattle.lines.specs.Decimal.{digits_of, decimal_after}
use Rattle.listing_text.specs.Text.{bytes, digits_up_to}
use Rattle.listing_request.specs.Asked.{asked_of}
use Rattle.listing.specs.Answer.{windows_listed, count_line, first_line, window_line, window_lines, answer_of}

record Sample : Type 0 where
  pub line : String
  pub answer : String

abbrev sample : String → String → Sample
sample line answer = record { line = line; answer = answer }

abbrev samples : List Sample
samples =
    -- "Input `10 4 1 R` gives in full"
    sample "10 4 1 R" "windows 3\n0 0 4\n1 3 7\n2 6 10\n"
    ∷ sample "10 4 1 L" "windows 3\n0 6 10\n1 3 7\n2 0 4\n"
    ∷ sample "10 4 4 R" "refused 3\n"
    -- "Max 0 with rows prints two windows, the first `0 0 0`."
    ∷ sample "10 0 9 R" "windows 2\n0 0 0\n1 0 10\n"
    ∷ sample "10 10 50 R" "whole\n"
    ∷ sample "0 0 0 L" "whole\n"
    ∷ sample "65536 4294967295 0 L" "whole\n"
    ∷ sample "65537 4 1 R" "bad line\n"
    ∷ sample "10 4294967296 1 R" "bad line\n"
    ∷ sample "10 4 1 R " "bad line\n"
    ∷ sample "10  4 1 R" "bad line\n"
    ∷ sample "10 4 1" "bad line\n"
    ∷ sample "" "bad line\n"
    ∷ []

abbrev Holds : Sample → Type 0
Holds s = answer_of (bytes s.line) ≡ bytes s.answer

hold : All Holds samples
unfolding answer_of asked_of first_line count_line window_line window_lines windows_listed digits_up_to digits_of decimal_after decision_of windows_of right_from left_from
hold = (refl, (refl, (refl, (refl, (refl, (refl, (refl, (refl, (refl, (refl, (refl, (refl, (refl, tt)))))))))))))
