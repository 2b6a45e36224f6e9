-- `validate` meets its contract. Assumes nothing.
use mathlib.Core.Path.{◌≡◌, ap, sym, ◌∙◌}
use Prim.Native.Nat.{ℕ}
use mathlib.Core.List.{List}
use Rattle.template_text.specs.Template.{read_template}
use Rattle.template_entries.specs.Table.{read_table}
use Rattle.template_table.specs.Check.{table_answer}
use Rattle.std.specs.Prelude.{Ok, Err, is_some}
use Rattle.template_text.specs.Used.{text_used, lent_text}
use Rattle.template_walk.specs.Sequences.{sequences_answer}
use Rattle.template_text.specs.declared.Which.TheVariants.{Single, Pair}
use Rattle.template_validate.proofs.Deciding.{known_used, sound_inside, decide_table, decide_single, decide_pair, decide_lacks_a, decide_lacks_b, decide_known}
use Rattle.template_validate.proofs.validate.Goals as goal

pub returns-in-Err : goal.returns-in-Err
returns-in-Err c = decide_table _ _ _ (sym c.check_table-table.ensures ∙ c.in-Err.is)

pub returns-in-Err-in_single : goal.returns-in-Err-in_single
returns-in-Err-in_single c =
    let is_sound : table_answer (read_table c.args.entries.now c.args.members.now c.args.added.now) ≡ Ok tt = sym c.check_table-table.ensures ∙ c.in_default.is in
    ap Err c.refused_in.ensures
    ∙ decide_single _ _ _ is_sound (ap (λ (t : List ℕ). sequences_answer (read_template t)) (sym c.text_used-single_text.ensures) ∙ sym c.sequences_in-in_single.ensures ∙ c.in-Err-in_single.is)

pub returns-then-not-named : goal.returns-then-not-named
returns-then-not-named c =
    let is_sound : table_answer (read_table c.args.entries.now c.args.members.now c.args.added.now) ≡ Ok tt = sym c.check_table-table.ensures ∙ c.in_default.is in
    let in_single : sequences_answer (read_template (text_used (is_some c.args.single) (lent_text c.args.single) Single)) ≡ Ok c.in_default-in_single.field-0 = ap (λ (t : List ℕ). sequences_answer (read_template t)) (sym c.text_used-single_text.ensures) ∙ sym c.sequences_in-in_single.ensures ∙ c.in_default-in_single.is in
    let in_pair : sequences_answer (read_template (text_used (is_some c.args.pair) (lent_text c.args.pair) Pair)) ≡ Ok c.in-Ok.named = ap (λ (t : List ℕ). sequences_answer (read_template t)) (sym c.text_used-pair_text.ensures) ∙ sym c.sequences_in-in_pair.ensures ∙ c.in-Ok.is in
    decide_lacks_a _ _ _ is_sound in_single in_pair c.if-not-named.true

pub returns-then-not-named-2 : goal.returns-then-not-named-2
returns-then-not-named-2 c =
    let is_sound : table_answer (read_table c.args.entries.now c.args.members.now c.args.added.now) ≡ Ok tt = sym c.check_table-table.ensures ∙ c.in_default.is in
    let in_single : sequences_answer (read_template (text_used (is_some c.args.single) (lent_text c.args.single) Single)) ≡ Ok c.in_default-in_single.field-0 = ap (λ (t : List ℕ). sequences_answer (read_template t)) (sym c.text_used-single_text.ensures) ∙ sym c.sequences_in-in_single.ensures ∙ c.in_default-in_single.is in
    let in_pair : sequences_answer (read_template (text_used (is_some c.args.pair) (lent_text c.args.pair) Pair)) ≡ Ok c.in-Ok.named = ap (λ (t : List ℕ). sequences_answer (read_template t)) (sym c.text_used-pair_text.ensures) ∙ sym c.sequences_in-in_pair.ensures ∙ c.in-Ok.is in
    decide_lacks_b _ _ _ is_sound in_single in_pair c.if-not-named-2.true

pub both_known-requires : goal.both_known-requires
both_known-requires c =
    let is_sound : table_answer (read_table c.args.entries.now c.args.members.now c.args.added.now) ≡ Ok tt = sym c.check_table-table.ensures ∙ c.in_default.is in
    sound_inside _ _ _ is_sound

pub returns-in-Err-in_pair : goal.returns-in-Err-in_pair
returns-in-Err-in_pair c =
    let is_sound : table_answer (read_table c.args.entries.now c.args.members.now c.args.added.now) ≡ Ok tt = sym c.check_table-table.ensures ∙ c.in_default.is in
    let in_single : sequences_answer (read_template (text_used (is_some c.args.single) (lent_text c.args.single) Single)) ≡ Ok c.in_default-in_single.field-0 = ap (λ (t : List ℕ). sequences_answer (read_template t)) (sym c.text_used-single_text.ensures) ∙ sym c.sequences_in-in_single.ensures ∙ c.in_default-in_single.is in
    ap Err c.refused_in-in-Err-in_pair.ensures
    ∙ decide_pair _ _ _ is_sound in_single (ap (λ (t : List ℕ). sequences_answer (read_template t)) (sym c.text_used-pair_text.ensures) ∙ sym c.sequences_in-in_pair.ensures ∙ c.in-Err-in_pair.is)

pub returns-else-not-named-2 : goal.returns-else-not-named-2
returns-else-not-named-2 c =
    let is_sound : table_answer (read_table c.args.entries.now c.args.members.now c.args.added.now) ≡ Ok tt = sym c.check_table-table.ensures ∙ c.in_default.is in
    let in_single : sequences_answer (read_template (text_used (is_some c.args.single) (lent_text c.args.single) Single)) ≡ Ok c.in_default-in_single.field-0 = ap (λ (t : List ℕ). sequences_answer (read_template t)) (sym c.text_used-single_text.ensures) ∙ sym c.sequences_in-in_single.ensures ∙ c.in_default-in_single.is in
    let in_pair : sequences_answer (read_template (text_used (is_some c.args.pair) (lent_text c.args.pair) Pair)) ≡ Ok c.in-Ok.named = ap (λ (t : List ℕ). sequences_answer (read_template t)) (sym c.text_used-pair_text.ensures) ∙ sym c.sequences_in-in_pair.ensures ∙ c.in-Ok.is in
    c.checked.ensures
    ∙ decide_known _ _ _ _ _ is_sound in_single in_pair c.if-not-named.false c.if-not-named-2.false
    (known_used _ _ c.text_used-single_text.ensures c.text_used-pair_text.ensures c.both_known.ensures)
