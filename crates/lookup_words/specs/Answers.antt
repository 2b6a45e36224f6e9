-- What the lookups of a word answer of a batch: refused, nothing, or where the word is. How an answer's numbers cross the C
-- interface is said in c_words.
-- Assumes nothing: these are definitions.
use Rattle.std.specs.Prelude.{ℕ, Option as Answer, Some, None, Result, Ok, Err}
use Rattle.std.proofs.Math.Option.{Option, none as nothing, some}
use Rattle.record.specs.Read.{Reading, of_one}
use Rattle.record.specs.declared.Bounds.{Bounds}
use Rattle.record.specs.declared.Refusal.{Refusal}
use Rattle.record.specs.declared.Refusal.TheVariants.{MalformedRecord}
use Rattle.lookup_ranges.specs.declared.Rows.{Rows}
use Rattle.lookup_search.specs.Answers.{tokens_answer}
use Rattle.lookup_words.specs.Words.{word_to_tokens, word_to_chars}
use Rattle.lookup_words.specs.declared.Chars.{Chars}

-- the characters from start up to, not including, end
abbrev pub chars_from_to : ℕ → ℕ → Chars
chars_from_to start end = record { start = record { 0 = start }; end = record { 0 = end } }

-- nothing, or those of a word
abbrev pub chars_answer : Option Bounds → Answer Chars
chars_answer nothing = None
chars_answer (some b) = Some (chars_from_to b.start b.end)

-- ---- The operations. "Lookups, span: 1. None is a normal result."

abbrev pub word_to_tokens_answer : Reading → ℕ → ℕ → Result (Answer Rows) Refusal
word_to_tokens_answer batch word id = of_one (Err MalformedRecord) (λ E. Ok (tokens_answer (word_to_tokens E word id))) batch

abbrev pub word_to_chars_answer : Reading → ℕ → ℕ → Result (Answer Chars) Refusal
word_to_chars_answer batch word id = of_one (Err MalformedRecord) (λ E. Ok (chars_answer (word_to_chars E word id))) batch
