-- `write_report` writes both halves of the totals, and the share. Assumes nothing.
use mathlib.Core.Path.{ap}
use native.Mathlib.Omega.{arith}
use Rattle.listing_text.proofs.Wrote.{wrote_then, wrote_as}
use Rattle.report_lines.specs.Lines.{share_line}
use Rattle.report_lines.proofs.Lines.{node_lines_few, kind_lines_few, report_in_parts}
use Rattle.report_lines.proofs.write_report.Goals as goal

pub write_kinds-last-requires : goal.write_kinds-last-requires
write_kinds-last-requires c =
    omega (arith, c.write_nodes-kinds.ensures.ends, node_lines_few c.args.report)

pub write_share-requires : goal.write_share-requires
write_share-requires c =
    let r = c.args.report in
    omega (arith, c.write_nodes-kinds.ensures.ends, c.write_kinds-last.ensures.ends, node_lines_few r, kind_lines_few r)

pub returns : goal.returns
returns c =
    wrote_as (report_in_parts c.args.report) (wrote_then c.write_nodes-kinds.ensures (wrote_then c.write_kinds-last.ensures (wrote_as (ap share_line c.report_share-share.ensures) c.write_share.ensures)))
