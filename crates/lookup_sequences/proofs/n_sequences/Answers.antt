-- `n_sequences` answers what `count_of` reads of the one encoding. Assumes nothing.
use mathlib.Core.Path.{sym, ap, ◌∙◌}
use Rattle.record.proofs.One.{not_one}
use Rattle.std.specs.Prelude.{Ok}
use Rattle.lookup_ranges.proofs.Top.{top_there, top_answer}
use Rattle.lookup_sequences.proofs.n_sequences.Goals as goal

pub count_of-requires : goal.count_of-requires
count_of-requires c = top_there _ _ (sym c.is_one.ensures ∙ c.if-not-is_one.false)

pub returns : goal.returns
returns c =
    top_answer _ _ _ _ _ (sym c.is_one.ensures ∙ c.if-not-is_one.false)
    (λ rows E h. ap Ok (c.count_of.ensures rows E h))

pub returns-then-not-is_one : goal.returns-then-not-is_one
returns-then-not-is_one c = sym (not_one _ _ _ (sym c.is_one.ensures ∙ c.if-not-is_one.true))
