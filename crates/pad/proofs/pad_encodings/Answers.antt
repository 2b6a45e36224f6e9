-- `pad_encodings` checks the record and the pad text, works out the length, and then pads. Assumes nothing.
use Rattle.std.proofs.Common.{rules}
use Rattle.std.specs.Prelude.{Err}
use mathlib.Core.Path.{◌≡◌, refl, sym, ap, ◌∙◌}
use Prim.Native.Nat.{ℕ, min}
use native.Mathlib.Omega.{arith}
use Rattle.record.specs.Tree.{Forest}
use Rattle.record.specs.WellFormed.{Stores}
use Rattle.record.specs.Outcome.{in_room}
use Rattle.record.specs.declared.Refusal.TheVariants.{MalformedRecord, TextOutsidePool}
use Rattle.record.proofs.Outcome.{writes_refused}
use Rattle.record_check.proofs.Checked.{refused_as, any_there}
use Rattle.pad_length.specs.Rounding.{rounded_up, largest_u64}
use Rattle.pad_write.specs.Padded.{padded}
use Rattle.pad_length.specs.Target.{target_of}
use Rattle.record.proofs.Passing.{nodes_of}
use Rattle.pad.proofs.Outcomes.{writes_as, capped, encodings_malformed, encodings_outside, encodings_inside}
use Rattle.pad.proofs.pad_encodings.Goals as goal

-- Past the check encodings are stored there, by `any_there`.

pub returns-in_err-check_batch : goal.returns-in_err-check_batch
returns-in_err-check_batch c =
    let refused = sym c.check_batch.ensures ∙ c.in_err-check_batch.was in
    let why = refused_as _ refused in
    let same : c.from_residual.result ≡ Err MalformedRecord = search rules in
    rw same (writes_refused MalformedRecord (encodings_malformed _ _ _ _ _ _ _ _ refused) refl refl refl refl)

pub returns-then-not-text_inside : goal.returns-then-not-text_inside
returns-then-not-text_inside c =
    let o : (f : Forest) × Stores c.args.nodes.now c.args.rows.now f = any_there _ _ _ (sym c.check_batch.ensures ∙ c.in_ok-check_batch.was) in
    writes_refused TextOutsidePool (encodings_outside o.1 _ _ _ _ _ _ _ (sym c.text_inside.ensures ∙ c.if-not-text_inside.true)) refl refl refl refl

pub padding_length-requires : goal.padding_length-requires
padding_length-requires c =
    let o : (f : Forest) × Stores c.args.nodes.now c.args.rows.now f = any_there _ _ _ (sym c.check_batch.ensures ∙ c.in_ok-check_batch.was) in
    (o.0, nodes_of o.1)

pub pad_stored-requires : goal.pad_stored-requires
pad_stored-requires c = any_there _ _ _ (sym c.check_batch.ensures ∙ c.in_ok-check_batch.was)

pub returns : goal.returns
returns c =
    let v = c.args in
    let o : (f : Forest) × Stores c.args.nodes.now c.args.rows.now f = any_there _ _ _ (sym c.check_batch.ensures ∙ c.in_ok-check_batch.was) in
    let target : c.rounded_length-target.result ≡ min (target_of v.strategy v.multiple o.0) largest_u64 =
    c.rounded_length-target.ensures.value ∙ ap (λ (n : ℕ). min (rounded_up n v.multiple) largest_u64) (c.padding_length.ensures o.0 (nodes_of o.1)) in
    let same : in_room v.out_nodes.now v.out_rows.now (padded c.rounded_length-target.result v.token v.direction o.0) ≡ in_room v.out_nodes.now v.out_rows.now (padded (target_of v.strategy v.multiple o.0) v.token v.direction o.0) =
    ap (λ (t : ℕ). in_room v.out_nodes.now v.out_rows.now (padded t v.token v.direction o.0)) target ∙ capped largest_u64 _ (omega arith) v.token v.direction _ _ o.0 in
    writes_as (same ∙ sym (encodings_inside o.1 _ _ _ _ _ _ _ (sym c.text_inside.ensures ∙ c.if-not-text_inside.false))) (c.pad_stored.ensures o.0 o.1)
