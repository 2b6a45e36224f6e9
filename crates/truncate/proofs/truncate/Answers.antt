-- `truncate` checks, measures, and cuts the one encoding. Assumes nothing.
use mathlib.Core.Path.{refl, sym, ◌∙◌}
use mathlib.Core.List.{[], ◌∷◌}
use Rattle.record.specs.Tree.{Encoding, forest}
use Rattle.record.specs.Standing.{One}
use Rattle.record.specs.declared.Refusal.TheVariants.{MalformedRecord}
use Rattle.record.proofs.One.{one_there}
use Rattle.record.proofs.Outcome.{writes_refused}
use Rattle.truncate.proofs.Deciding.{one_stands, outcome_malformed, outcome_one}
use Rattle.truncate.proofs.truncate.Goals as goal

pub returns-then-not-is_one : goal.returns-then-not-is_one
returns-then-not-is_one c = writes_refused MalformedRecord (outcome_malformed _ _ _ _ _ _ (sym c.is_one.ensures ∙ c.if-not-is_one.true)) refl refl refl refl

pub measure-own-requires : goal.measure-own-requires
measure-own-requires c =
    let o : (E : Encoding) × One c.args.nodes.now c.args.rows.now E = one_there _ _ (sym c.is_one.ensures ∙ c.if-not-is_one.false) in
    (forest (o.0 ∷ []), one_stands o.1)

pub cut_one-requires : goal.cut_one-requires
cut_one-requires c =
    let o : (E : Encoding) × One c.args.nodes.now c.args.rows.now E = one_there _ _ (sym c.is_one.ensures ∙ c.if-not-is_one.false) in
    record { E = o.0; one = o.1; measured = c.measure-own.ensures _ (one_stands o.1) }

pub returns : goal.returns
returns c =
    let o : (E : Encoding) × One c.args.nodes.now c.args.rows.now E = one_there _ _ (sym c.is_one.ensures ∙ c.if-not-is_one.false) in
    rw (outcome_one o.1 _ _ _ _ _) (c.cut_one.ensures o.0 o.1 (c.measure-own.ensures _ (one_stands o.1)))
