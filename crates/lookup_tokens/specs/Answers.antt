-- What the lookups of a row answer of a batch: refused, nothing, or what is found. How an answer's numbers cross the C
-- interface is said in c_chars and c_words.
-- Assumes nothing: these are definitions.
use Rattle.std.specs.Prelude.{ℕ, Option as Answer, Some, None, Result, Ok, Err}
use Rattle.std.proofs.Math.Option.{Option, none as nothing, some}
use Rattle.record.specs.Read.{Reading, of_one}
use Rattle.record.specs.declared.Bounds.{Bounds}
use Rattle.record.specs.declared.Refusal.{Refusal}
use Rattle.record.specs.declared.Refusal.TheVariants.{MalformedRecord}
use Rattle.lookup_holding.specs.Holding.{Placed}
use Rattle.lookup_tokens.specs.Tokens.{token_to_chars, token_to_word}
use Rattle.lookup_tokens.specs.declared.TokenChars.{TokenChars}
use Rattle.lookup_tokens.specs.declared.TokenWord.{TokenWord}

-- nothing, or the sequence of a row, its place there and its characters from start up to, not including, end
abbrev pub token_chars_answer : Option (Placed × Bounds) → Answer TokenChars
token_chars_answer nothing = None
token_chars_answer (some f) = Some (record { sequence = f.0.sequence; place = record { 0 = f.0.place }; start = record { 0 = f.1.start }; end = record { 0 = f.1.end } })

-- nothing, or the sequence of a row, its place there and its word
abbrev pub token_word_answer : Option (Placed × ℕ) → Answer TokenWord
token_word_answer nothing = None
token_word_answer (some f) = Some (record { sequence = f.0.sequence; place = record { 0 = f.0.place }; word = record { 0 = f.1 } })

-- ---- The operations. "Lookups, span: 1. None is a normal result."

abbrev pub token_to_chars_answer : Reading → ℕ → Result (Answer TokenChars) Refusal
token_to_chars_answer batch row = of_one (Err MalformedRecord) (λ E. Ok (token_chars_answer (token_to_chars E row))) batch

abbrev pub token_to_word_answer : Reading → ℕ → Result (Answer TokenWord) Refusal
token_to_word_answer batch row = of_one (Err MalformedRecord) (λ E. Ok (token_word_answer (token_to_word E row))) batch
