-- `report_add` meets its contract: refused with 1, or what the batch adds, totalled. Assumes nothing.
use Rattle.std.specs.Prelude.{Err}
use mathlib.Core.Path.{sym, ap, ◌∙◌}
use Rattle.record_check.proofs.Checked.{batch_there}
use Rattle.std.proofs.lemmas.Result.{err_from_is_err_and}
use Rattle.report_trees.specs.Report.{summed, totalled}
use Rattle.report_trees.specs.declared.Report.{Report}
use Rattle.report_batch.proofs.Adding.{added_malformed, totalled_of, added_batch, tops_within, counts_told}
use Rattle.report_batch.proofs.report_add.Goals as goal

pub returns-in_err-encodings : goal.returns-in_err-encodings
returns-in_err-encodings c =
    let p = err_from_is_err_and c.from_residual.result c.from_residual.ensures.1 in
    p.1 ∙ ap Err p.2 ∙ added_malformed _ _ c.args.report c.in_err-encodings.ensures

pub overflow_sub-batch : goal.overflow_sub-batch
overflow_sub-batch c = let b = batch_there _ _ _ (sym c.in_ok-encodings.ensures) in tops_within b.1 b.2

pub returns : goal.returns
returns c =
    let b = batch_there _ _ _ (sym c.in_ok-encodings.ensures) in
    let r = c.args.report in
    c.ok_or.ensures.value
    ∙ totalled_of _ c.total.result c.total.ensures
    ∙ ap (λ (s : Report). totalled (summed r s)) (counts_told b.1 b.2 c.count_kinds-kinds.result c.count_kinds-kinds.ensures)
    ∙ sym (added_batch b.1 r)
