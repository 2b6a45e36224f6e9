-- `token_to_chars` answers with what `chars_of_token` finds in the one encoding, else refuses. Assumes nothing.
use mathlib.Core.Path.{sym, ap, ◌∙◌}
use Rattle.std.specs.Prelude.{Ok}
use Rattle.record.proofs.One.{not_one}
use Rattle.lookup_search.proofs.InRange.{told}
use Rattle.lookup_tokens.proofs.token_to_chars.Goals as goal

pub chars_of_token-requires : goal.chars_of_token-requires
chars_of_token-requires c = sym c.is_one.ensures ∙ c.if-not-is_one.false

pub returns : goal.returns
returns c = told _ _ _ _ _ (sym c.is_one.ensures ∙ c.if-not-is_one.false) (λ E one. ap Ok (c.chars_of_token.ensures E one))

pub returns-then-not-is_one : goal.returns-then-not-is_one
returns-then-not-is_one c = sym (not_one _ _ _ (sym c.is_one.ensures ∙ c.if-not-is_one.true))
