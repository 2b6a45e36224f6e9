-- `word_to_tokens` answers with what `tokens_of_word` finds in the one encoding, else refuses. Assumes nothing.
use mathlib.Core.Path.{sym, ap, ◌∙◌}
use Rattle.std.specs.Prelude.{Ok}
use Rattle.record.proofs.One.{not_one}
use Rattle.lookup_search.proofs.InRange.{told}
use Rattle.lookup_words.proofs.word_to_tokens.Goals as goal

pub tokens_of_word-requires : goal.tokens_of_word-requires
tokens_of_word-requires c = sym c.is_one.ensures ∙ c.if-not-is_one.false

pub returns : goal.returns
returns c = told _ _ _ _ _ (sym c.is_one.ensures ∙ c.if-not-is_one.false) (λ E one. ap Ok (c.tokens_of_word.ensures E one))

pub returns-then-not-is_one : goal.returns-then-not-is_one
returns-then-not-is_one c = sym (not_one _ _ _ (sym c.is_one.ensures ∙ c.if-not-is_one.true))
