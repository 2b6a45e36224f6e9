-- `check_batch` answers what `read` reads: what the passes test, number by number, is what well-formed says. Assumes nothing.
use mathlib.Core.Path.{◌∙◌}
use native.Mathlib.Omega.{arith}
use Rattle.record_fields.specs.Promises.{RowsFine}
use Rattle.record_fields.proofs.Decides.{decided, refuted}
use Rattle.record_check.proofs.Meets.{refuses, answers, rows_fine, few_nodes, few_rows}
use Rattle.record_check.proofs.check_batch.Goals as goal

pub returns-then-nodes-gt-MOST_NODE_NUMBERS : goal.returns-then-nodes-gt-MOST_NODE_NUMBERS
returns-then-nodes-gt-MOST_NODE_NUMBERS c = refuses _ _ (λ f s. omega (arith, few_nodes _ _ f s, c.if-nodes-gt-MOST_NODE_NUMBERS.true))

pub returns-then-rows-gt-MOST_ROW_NUMBERS : goal.returns-then-rows-gt-MOST_ROW_NUMBERS
returns-then-rows-gt-MOST_ROW_NUMBERS c = refuses _ _ (λ f s. omega (arith, few_rows _ _ f s, c.if-rows-gt-MOST_ROW_NUMBERS.true))

pub returns-then-rows_ok : goal.returns-then-rows_ok
returns-then-rows_ok c =
    let v = c.args in
    c.ok_or.ensures.value ∙ answers v.nodes.now v.rows.now _ c.check_nodes.ensures
    (decided c.rows_ok.result (RowsFine v.rows.now) c.if-rows_ok.true c.rows_ok.ensures)
    (omega arith) (omega arith)

pub returns : goal.returns
returns c =
    let v = c.args in
    refuses v.nodes.now v.rows.now (λ f s. refuted c.rows_ok.result (RowsFine v.rows.now) c.if-rows_ok.false c.rows_ok.ensures (rows_fine v.nodes.now v.rows.now f s))
