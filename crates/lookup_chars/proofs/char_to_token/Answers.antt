-- `char_to_token` answers with what `token_of_char` finds in the one encoding, else refuses. Assumes nothing.
use mathlib.Core.Path.{sym, ap, ◌∙◌}
use Rattle.std.specs.Prelude.{Ok}
use Rattle.record.proofs.One.{not_one}
use Rattle.lookup_search.proofs.InRange.{told}
use Rattle.lookup_chars.proofs.char_to_token.Goals as goal

pub token_of_char-requires : goal.token_of_char-requires
token_of_char-requires c = sym c.is_one.ensures ∙ c.if-not-is_one.false

pub returns : goal.returns
returns c = told _ _ _ _ _ (sym c.is_one.ensures ∙ c.if-not-is_one.false) (λ E one. ap Ok (c.token_of_char.ensures E one))

pub returns-then-not-is_one : goal.returns-then-not-is_one
returns-then-not-is_one c = sym (not_one _ _ _ (sym c.is_one.ensures ∙ c.if-not-is_one.true))
