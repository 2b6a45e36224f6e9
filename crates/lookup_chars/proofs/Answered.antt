-- From the answers of searches back to what the definitions say.
-- Assumes nothing.
use mathlib.Core.Path.{◌≡◌, sym, ap}
use Prim.Native.Nat.{ℕ}
use mathlib.Core.Option.{Option, none as nothing, some, map}
use Rattle.std.specs.Prelude.{Option as Answer, Some, None}
use Rattle.record.specs.declared.Row.{Row}
use Rattle.lookup_holding.specs.Holding.{Placed}
use Rattle.lookup_search.specs.Answers.{token_answer}
use Rattle.lookup_tokens.specs.declared.TokenWord.{TokenWord}
use Rattle.lookup_tokens.specs.Answers.{token_word_answer}

abbrev pub token_back : Answer Row → Option ℕ
token_back None = nothing
token_back (Some row) = some row.0

pub token_back_lem : (o : Option ℕ) (a : Answer Row) → a ≡ token_answer o → o ≡ token_back a
token_back_lem nothing a e = sym (ap token_back e)
token_back_lem (some b) a e = sym (ap token_back e)

-- the word alone of an answer that has a sequence and a place too
abbrev pub word_back : Answer TokenWord → Option ℕ
word_back None = nothing
word_back (Some found) = some found.word.0

pub word_back_lem : (o : Option (Placed × ℕ)) (a : Answer TokenWord) → a ≡ token_word_answer o → map (λ found. found.1) o ≡ word_back a
word_back_lem nothing a e = sym (ap word_back e)
word_back_lem (some found) a e = sym (ap word_back e)
