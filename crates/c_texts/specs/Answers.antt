-- How the answers of text and span cross the C interface, each with what the lent numbers were. Where something may be
-- absent, the first number says whether it is there, and all are 0 where it is not.
-- Assumes nothing: these are definitions.
use Rattle.std.specs.Prelude.{ℕ, List, [], ◌∷◌, Option, Some, None, Result, Ok, Err}
use Rattle.record.specs.declared.Refusal.{Refusal}
use Rattle.lookup_texts.specs.declared.TextPlace.{TextPlace}
use Rattle.lookup_texts.specs.declared.Offsets.{Offsets}
use Rattle.c_crossing.specs.Crossing.{Crossed, crossed_of}

-- ---- The numbers of each

abbrev pub text_numbers : Result (Option TextPlace) Refusal → Result (List ℕ) Refusal
text_numbers (Err k) = Err k
text_numbers (Ok None) = Ok (0 ∷ 0 ∷ 0 ∷ 0 ∷ [])
text_numbers (Ok (Some f)) = Ok (1 ∷ f.pool ∷ f.start ∷ f.length ∷ [])

abbrev pub span_numbers : Result (Option Offsets) Refusal → Result (List ℕ) Refusal
span_numbers (Err k) = Err k
span_numbers (Ok None) = Ok (0 ∷ 0 ∷ 0 ∷ [])
span_numbers (Ok (Some f)) = Ok (1 ∷ f.start.0 ∷ f.end.0 ∷ [])

-- ---- In the place of what the lent numbers were

abbrev pub text_crossed : List ℕ → Result (Option TextPlace) Refusal → Crossed
text_crossed was a = crossed_of was (text_numbers a)

abbrev pub span_crossed : List ℕ → Result (Option Offsets) Refusal → Crossed
span_crossed was a = crossed_of was (span_numbers a)
