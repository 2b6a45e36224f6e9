-- How the answers of the lookups between characters and rows cross the C interface, each with what the lent numbers were.
-- Where something may be absent, the first number says whether it is there, and all are 0 where it is not.
-- Assumes nothing: these are definitions.
use Rattle.std.specs.Prelude.{ℕ, List, [], ◌∷◌, Option, Some, None, Result, Ok, Err}
use Rattle.record.specs.declared.Refusal.{Refusal}
use Rattle.record.specs.declared.Row.{Row}
use Rattle.lookup_tokens.specs.declared.TokenChars.{TokenChars}
use Rattle.c_crossing.specs.Crossing.{Crossed, crossed_of}

-- ---- The numbers of each

abbrev pub token_numbers : Result (Option Row) Refusal → Result (List ℕ) Refusal
token_numbers (Err k) = Err k
token_numbers (Ok None) = Ok (0 ∷ 0 ∷ [])
token_numbers (Ok (Some f)) = Ok (1 ∷ f.0 ∷ [])

abbrev pub token_chars_numbers : Result (Option TokenChars) Refusal → Result (List ℕ) Refusal
token_chars_numbers (Err k) = Err k
token_chars_numbers (Ok None) = Ok (0 ∷ 0 ∷ 0 ∷ 0 ∷ 0 ∷ [])
token_chars_numbers (Ok (Some f)) = Ok (1 ∷ f.sequence ∷ f.place.0 ∷ f.start.0 ∷ f.end.0 ∷ [])

-- ---- In the place of what the lent numbers were

abbrev pub token_crossed : List ℕ → Result (Option Row) Refusal → Crossed
token_crossed was a = crossed_of was (token_numbers a)

abbrev pub token_chars_crossed : List ℕ → Result (Option TokenChars) Refusal → Crossed
token_chars_crossed was a = crossed_of was (token_chars_numbers a)
