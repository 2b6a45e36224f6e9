-- `pad` checks the record and the pad text, and then pads. Assumes nothing.
use mathlib.Core.Path.{refl, sym, ◌∙◌}
use mathlib.Core.List.{[], ◌∷◌}
use Rattle.record.specs.Tree.{Encoding, forest}
use Rattle.record.specs.Standing.{One}
use Rattle.record.specs.declared.Refusal.TheVariants.{MalformedRecord, TextOutsidePool}
use Rattle.record.proofs.One.{one_there}
use Rattle.record.proofs.Outcome.{writes_refused}
use Rattle.pad.proofs.Outcomes.{writes_as, pad_malformed, pad_outside, pad_inside}
use Rattle.pad.proofs.pad.Goals as goal

-- Past the first test there is one encoding, by `one_there`.

pub returns-then-not-is_one : goal.returns-then-not-is_one
returns-then-not-is_one c = writes_refused MalformedRecord (pad_malformed _ _ _ _ _ _ _ (sym c.is_one.ensures ∙ c.if-not-is_one.true)) refl refl refl refl

pub returns-then-not-text_inside : goal.returns-then-not-text_inside
returns-then-not-text_inside c =
    let o : (E : Encoding) × One c.args.nodes.now c.args.rows.now E = one_there _ _ (sym c.is_one.ensures ∙ c.if-not-is_one.false) in
    writes_refused TextOutsidePool (pad_outside o.1 _ _ _ _ _ _ (sym c.text_inside.ensures ∙ c.if-not-text_inside.true)) refl refl refl refl

pub pad_stored-requires : goal.pad_stored-requires
pad_stored-requires c =
    let o : (E : Encoding) × One c.args.nodes.now c.args.rows.now E = one_there _ _ (sym c.is_one.ensures ∙ c.if-not-is_one.false) in
    (forest (o.0 ∷ []), o.1.stores)

pub returns : goal.returns
returns c =
    let o : (E : Encoding) × One c.args.nodes.now c.args.rows.now E = one_there _ _ (sym c.is_one.ensures ∙ c.if-not-is_one.false) in
    writes_as (sym (pad_inside o.1 _ _ _ _ _ _ (sym c.text_inside.ensures ∙ c.if-not-text_inside.false))) (c.pad_stored.ensures (forest (o.0 ∷ [])) o.1.stores)
