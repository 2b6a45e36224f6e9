-- What the lookups of a character answer of a batch: refused, nothing, or what is found. How an answer's numbers cross the C
-- interface is said in c_chars and c_words.
-- Assumes nothing: these are definitions.
use Rattle.std.specs.Prelude.{ℕ, Option as Answer, Some, None, Result, Ok, Err}
use Rattle.std.proofs.Math.Option.{Option, none as nothing, some}
use Rattle.record.specs.Read.{Reading, of_one}
use Rattle.record.specs.declared.Row.{Row}
use Rattle.record.specs.declared.Word.{Word}
use Rattle.record.specs.declared.Refusal.{Refusal}
use Rattle.record.specs.declared.Refusal.TheVariants.{MalformedRecord}
use Rattle.lookup_search.specs.Answers.{token_answer}
use Rattle.lookup_chars.specs.Chars.{char_to_token, char_to_word}

-- nothing, or the word of a character
abbrev pub word_answer : Option ℕ → Answer Word
word_answer nothing = None
word_answer (some w) = Some (record { 0 = w })

-- ---- The operations. "Lookups, span: 1. None is a normal result."

abbrev pub char_to_token_answer : Reading → ℕ → ℕ → Result (Answer Row) Refusal
char_to_token_answer batch place id = of_one (Err MalformedRecord) (λ E. Ok (token_answer (char_to_token E place id))) batch

abbrev pub char_to_word_answer : Reading → ℕ → ℕ → Result (Answer Word) Refusal
char_to_word_answer batch place id = of_one (Err MalformedRecord) (λ E. Ok (word_answer (char_to_word E place id))) batch
