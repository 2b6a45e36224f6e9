-- `add_stored` meets its contract: the words read are the nodes and then the rows. Assumes nothing.
use native.Mathlib.Omega.{arith}
use mathlib.Core.Path.{ap, ◌∙◌}
use Rattle.record.specs.Read.{Reading}
use Rattle.report_trees.specs.Report.{add_answer}
use Rattle.report_stored.proofs.Stored.{batch_read}
use Rattle.report_stored.proofs.add_stored.Goals as goal

pub returns : goal.returns
returns c =
    let nodes = c.node_numbers-nodes.ensures.0 in
    let rows = c.row_numbers.ensures.0 in
    c.add_numbers.ensures
    ∙ ap (λ (batch : Reading). add_answer batch c.args.report)
    (batch_read c.args.bytes.now c.args.numbers.now nodes rows (omega (arith, c.requires.room, nodes, rows)) c.read_words.ensures)
