-- How the answers of the lookups of words cross the C interface, each with what the lent numbers were. Where something may be
-- absent, the first number says whether it is there, and all are 0 where it is not.
-- Assumes nothing: these are definitions.
use Rattle.std.specs.Prelude.{ℕ, List, [], ◌∷◌, Option, Some, None, Result, Ok, Err}
use Rattle.record.specs.declared.Refusal.{Refusal}
use Rattle.record.specs.declared.Word.{Word}
use Rattle.lookup_ranges.specs.declared.Rows.{Rows}
use Rattle.lookup_words.specs.declared.Chars.{Chars}
use Rattle.lookup_tokens.specs.declared.TokenWord.{TokenWord}
use Rattle.c_crossing.specs.Crossing.{Crossed, crossed_of}

-- ---- The numbers of each

abbrev pub tokens_numbers : Result (Option Rows) Refusal → Result (List ℕ) Refusal
tokens_numbers (Err k) = Err k
tokens_numbers (Ok None) = Ok (0 ∷ 0 ∷ 0 ∷ [])
tokens_numbers (Ok (Some f)) = Ok (1 ∷ f.start.0 ∷ f.end.0 ∷ [])

abbrev pub chars_numbers : Result (Option Chars) Refusal → Result (List ℕ) Refusal
chars_numbers (Err k) = Err k
chars_numbers (Ok None) = Ok (0 ∷ 0 ∷ 0 ∷ [])
chars_numbers (Ok (Some f)) = Ok (1 ∷ f.start.0 ∷ f.end.0 ∷ [])

abbrev pub token_word_numbers : Result (Option TokenWord) Refusal → Result (List ℕ) Refusal
token_word_numbers (Err k) = Err k
token_word_numbers (Ok None) = Ok (0 ∷ 0 ∷ 0 ∷ 0 ∷ [])
token_word_numbers (Ok (Some f)) = Ok (1 ∷ f.sequence ∷ f.place.0 ∷ f.word.0 ∷ [])

abbrev pub word_numbers : Result (Option Word) Refusal → Result (List ℕ) Refusal
word_numbers (Err k) = Err k
word_numbers (Ok None) = Ok (0 ∷ 0 ∷ [])
word_numbers (Ok (Some f)) = Ok (1 ∷ f.0 ∷ [])

-- ---- In the place of what the lent numbers were

abbrev pub tokens_crossed : List ℕ → Result (Option Rows) Refusal → Crossed
tokens_crossed was a = crossed_of was (tokens_numbers a)

abbrev pub chars_crossed : List ℕ → Result (Option Chars) Refusal → Crossed
chars_crossed was a = crossed_of was (chars_numbers a)

abbrev pub token_word_crossed : List ℕ → Result (Option TokenWord) Refusal → Crossed
token_word_crossed was a = crossed_of was (token_word_numbers a)

abbrev pub word_crossed : List ℕ → Result (Option Word) Refusal → Crossed
word_crossed was a = crossed_of was (word_numbers a)
