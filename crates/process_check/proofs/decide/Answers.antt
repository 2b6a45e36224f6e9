-- `decide` checks, chooses the template, and plans its steps. Assumes nothing.
use mathlib.Core.Path.{◌≡◌, sym, ◌∙◌}
use borrow.Author.Rules.{rules}
use Rattle.std.specs.Prelude.{Err, is_some}
use Rattle.template_text.specs.Used.{lent_text}
use Rattle.record.proofs.OneOrTwo.{one_or_two_there}
use Rattle.template_table.proofs.Table.{answer_sound, answer_refused}
use Rattle.process_template.proofs.Inputs.{second_told}
use Rattle.process_check.proofs.Checking.{sound_inside, sound_fits, read_short}
use Rattle.process_check.proofs.NotSix.{table_not_six}
use Rattle.process_check.proofs.Deciding.{tested_so, usable, has_steps, text_told, decide_malformed, decide_faulty, decide_unusable, decide_take}
use Rattle.process_check.proofs.decide.Goals as goal

pub returns-then-not-is_one_or_two : goal.returns-then-not-is_one_or_two
returns-then-not-is_one_or_two c = decide_malformed _ _ _ _ (sym c.is_one_or_two.ensures ∙ c.if-not-is_one_or_two.true)

pub returns-in_err-check_table : goal.returns-in_err-check_table
returns-in_err-check_table c =
    let same : c.from_residual.result ≡ Err c.in_err-check_table.field-0.0 = search rules in
    let t = one_or_two_there c.args.nodes.now c.args.rows.now (sym c.is_one_or_two.ensures ∙ c.if-not-is_one_or_two.false) in
    let e = answer_refused _ (sym c.check_table.ensures ∙ c.in_err-check_table.was) in
    rw same (decide_faulty _ _ _ t.1 t.2 e (table_not_six _ _ _ e))

pub second_spot-second-requires : goal.second_spot-second-requires
second_spot-second-requires c =
    let t = one_or_two_there c.args.nodes.now c.args.rows.now (sym c.is_one_or_two.ensures ∙ c.if-not-is_one_or_two.false) in
    record { E = t.0; second = t.1; stores = t.2 }

pub check_template-requires : goal.check_template-requires
check_template-requires c =
    let s = answer_sound _ (sym c.check_table.ensures ∙ c.in_ok-check_table.was) in
    sound_inside _ _ _ s.1

pub returns-in_err-check_template : goal.returns-in_err-check_template
returns-in_err-check_template c =
    let same : c.from_residual-in_err-check_template.result ≡ Err c.in_err-check_template.field-0.0 = search rules in
    let t = one_or_two_there c.args.nodes.now c.args.rows.now (sym c.is_one_or_two.ensures ∙ c.if-not-is_one_or_two.false) in
    let s = answer_sound _ (sym c.check_table.ensures ∙ c.in_ok-check_table.was) in
    let inputs = c.second_spot-second.ensures t.0 t.1 t.2 in
    rw same (decide_unusable _ _ _ t.1 t.2 _ s.1 (text_told (is_some c.args.single) (lent_text c.args.single) (is_some c.args.pair) (lent_text c.args.pair) t.1 c.text_for-text.ensures (second_told t.1 inputs)) (tested_so c.args.members.now inputs s.1 c.check_template.ensures c.in_err-check_template.was))

pub plan-requires : goal.plan-requires
plan-requires c =
    let t = one_or_two_there c.args.nodes.now c.args.rows.now (sym c.is_one_or_two.ensures ∙ c.if-not-is_one_or_two.false) in
    let s = answer_sound _ (sym c.check_table.ensures ∙ c.in_ok-check_table.was) in
    let inputs = c.second_spot-second.ensures t.0 t.1 t.2 in
    let u = tested_so c.args.members.now inputs s.1 c.check_template.ensures c.in_ok-check_template.was in
    record { table_fits = sound_fits _ _ _ s.1; is_short = read_short _ (usable t.0 t.1 s.0 c.args.add_special_tokens _ u).1.reads; room = c.requires }

pub returns-in_err-count : goal.returns-in_err-count
returns-in_err-count c =
    let t = one_or_two_there c.args.nodes.now c.args.rows.now (sym c.is_one_or_two.ensures ∙ c.if-not-is_one_or_two.false) in
    let s = answer_sound _ (sym c.check_table.ensures ∙ c.in_ok-check_table.was) in
    let inputs = c.second_spot-second.ensures t.0 t.1 t.2 in
    let u = tested_so c.args.members.now inputs s.1 c.check_template.ensures c.in_ok-check_template.was in
    has_steps t.0 t.1 _ _ _ _ _ _ u s.1 c.plan.ensures c.in_err-count.was

pub returns : goal.returns
returns c =
    let t = one_or_two_there c.args.nodes.now c.args.rows.now (sym c.is_one_or_two.ensures ∙ c.if-not-is_one_or_two.false) in
    let s = answer_sound _ (sym c.check_table.ensures ∙ c.in_ok-check_table.was) in
    let inputs = c.second_spot-second.ensures t.0 t.1 t.2 in
    let u = tested_so c.args.members.now inputs s.1 c.check_template.ensures c.in_ok-check_template.was in
    decide_take _ _ _ t.1 t.2 _ s.1 (text_told (is_some c.args.single) (lent_text c.args.single) (is_some c.args.pair) (lent_text c.args.pair) t.1 c.text_for-text.ensures (second_told t.1 inputs)) u _ _ _ s.1 c.plan.ensures inputs c.in_ok-count.was
