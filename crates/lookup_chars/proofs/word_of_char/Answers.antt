-- `word_of_char` gives the word of the row that holds the place. Assumes nothing.
use mathlib.Core.Path.{◌≡◌, sym, ap, ◌∙◌}
use Prim.Native.Nat.{ℕ}
use mathlib.Core.Option.{Option, map}
use Rattle.std.specs.Prelude.{Option as Answer}
use Rattle.record.specs.declared.Row.{Row}
use Rattle.lookup_holding.specs.Holding.{Placed}
use Rattle.lookup_search.specs.Answers.{token_answer}
use Rattle.lookup_tokens.specs.declared.TokenWord.{TokenWord}
use Rattle.lookup_tokens.specs.Answers.{token_word_answer}
use Rattle.lookup_chars.specs.Answers.{word_answer}
use Rattle.lookup_chars.proofs.Answered.{token_back, token_back_lem, word_back, word_back_lem}
use Rattle.lookup_chars.proofs.CharsStored.{char_word_nothing, char_word_found}
use Rattle.lookup_chars.proofs.word_of_char.Goals as goal

-- the row that holds the place, by the case of the answer
held : (o : Option ℕ) {t a : Answer Row} → t ≡ token_answer o → t ≡ a → o ≡ token_back a
held o h e = token_back_lem _ _ h ∙ ap token_back e

-- and its word
said : (o : Option (Placed × ℕ)) {t a : Answer TokenWord} → t ≡ token_word_answer o → t ≡ a → map (λ found. found.1) o ≡ word_back a
said o h e = word_back_lem _ _ h ∙ ap word_back e

pub returns-in_err-token : goal.returns-in_err-token
returns-in_err-token c = λ E one.
    c.from_residual.ensures ∙ ap word_answer (sym (char_word_nothing E _ _ (held _ (c.token_of_char.ensures E one) c.in_err-token.was)))

pub returns-in_err-found : goal.returns-in_err-found
returns-in_err-found c = λ E one.
    c.from_residual-in_err-found.ensures
    ∙ ap word_answer (sym (char_word_found E _ _ _ (held _ (c.token_of_char.ensures E one) c.in_ok-token.was) ∙ said _ (c.word_of_token.ensures E one) c.in_err-found.was))

pub returns : goal.returns
returns c = λ E one.
    ap word_answer (sym (char_word_found E _ _ _ (held _ (c.token_of_char.ensures E one) c.in_ok-token.was) ∙ said _ (c.word_of_token.ensures E one) c.in_ok-found.was))
