-- `count_added` meets its contract. Assumes nothing.
use mathlib.Core.Path.{sym, ◌∙◌, ◌≡◌}
use Rattle.template_validate.proofs.Deciding.{sound_inside, count_table, count_used}
use Rattle.template_entries.specs.Table.{read_table}
use Rattle.template_table.specs.Check.{table_answer}
use borrow.Author.Rules.{rules}
use Rattle.std.specs.Prelude.{Ok, Err, is_some}
use Rattle.template_text.specs.Used.{lent_text}
use Rattle.template_validate.proofs.count_added.Goals as goal

pub returns-in_err-check_table : goal.returns-in_err-check_table
returns-in_err-check_table c =
    let same : c.from_residual.result ≡ Err c.in_err-check_table.field-0.0 = search rules in
    same ∙ count_table _ _ (sym c.check_table.ensures ∙ c.in_err-check_table.was)

pub count_pieces-requires : goal.count_pieces-requires
count_pieces-requires c =
    let is_sound : table_answer (read_table c.args.entries.now c.args.members.now c.args.added.now) ≡ Ok tt = sym c.check_table.ensures ∙ c.in_ok-check_table.was in
    sound_inside _ _ _ is_sound

pub count_pieces-requires-in-Pair : goal.count_pieces-requires-in-Pair
count_pieces-requires-in-Pair c =
    let is_sound : table_answer (read_table c.args.entries.now c.args.members.now c.args.added.now) ≡ Ok tt = sym c.check_table.ensures ∙ c.in_ok-check_table.was in
    sound_inside _ _ _ is_sound

pub returns-in-Single : goal.returns-in-Single
returns-in-Single c =
    let is_sound : table_answer (read_table c.args.entries.now c.args.members.now c.args.added.now) ≡ Ok tt = sym c.check_table.ensures ∙ c.in_ok-check_table.was in
    count_used _ _ _ (is_some c.args.text) (lent_text c.args.text) is_sound c.text_used.ensures c.in-Single.is c.count_pieces.ensures

pub returns-in-Pair : goal.returns-in-Pair
returns-in-Pair c =
    let is_sound : table_answer (read_table c.args.entries.now c.args.members.now c.args.added.now) ≡ Ok tt = sym c.check_table.ensures ∙ c.in_ok-check_table.was in
    count_used _ _ _ (is_some c.args.text) (lent_text c.args.text) is_sound c.text_used-in-Pair.ensures c.in-Pair.is c.count_pieces-in-Pair.ensures
