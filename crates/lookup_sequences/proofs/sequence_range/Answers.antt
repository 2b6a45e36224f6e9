-- `sequence_range` answers what `range_of` reads of the one encoding. Assumes nothing.
use mathlib.Core.Path.{sym, ap, ◌∙◌}
use Rattle.record.proofs.One.{not_one}
use Rattle.std.specs.Prelude.{Ok}
use Rattle.record.specs.declared.Bounds.{Bounds}
use Rattle.lookup_sequences.specs.Answers.{rows_answer}
use Rattle.lookup_ranges.proofs.Top.{top_there, top_answer}
use Rattle.lookup_sequences.proofs.sequence_range.Goals as goal

pub range_of-bounds-requires : goal.range_of-bounds-requires
range_of-bounds-requires c = top_there _ _ (sym c.is_one.ensures ∙ c.if-not-is_one.false)

pub returns : goal.returns
returns c =
    top_answer _ _ _ _ _ (sym c.is_one.ensures ∙ c.if-not-is_one.false)
    (λ rows E h. ap (λ (b : Bounds). Ok (rows_answer b)) (c.range_of-bounds.ensures rows E h))

pub returns-then-not-is_one : goal.returns-then-not-is_one
returns-then-not-is_one c = sym (not_one _ _ _ (sym c.is_one.ensures ∙ c.if-not-is_one.true))
