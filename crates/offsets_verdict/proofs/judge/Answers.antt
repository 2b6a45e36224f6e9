-- `judge` meets its contract: the record, the text, the rows. Assumes nothing.
use mathlib.Core.Path.{sym, ◌∙◌}
use Rattle.offsets_verdict.proofs.Deciding.{verdict_rows}
use Rattle.offsets_verdict.proofs.judge.Goals as goal

pub returns : goal.returns
returns c =
    let a = c.args in
    c.rows_verdict.ensures
    ∙ verdict_rows a.way a.nodes.now a.rows.now a.text.now (sym c.check_batch.ensures ∙ c.in_ok-check_batch.was) (sym c.is_text.ensures ∙ c.if-not-is_text.false)
