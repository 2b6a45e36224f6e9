-- `write_nodes` writes the lines of encodings, windows and rows, each in the room that those before it leave. Assumes nothing.
use native.Mathlib.Omega.{arith}
use Rattle.listing_text.proofs.Wrote.{wrote_then}
use Rattle.report_lines.specs.Parts.{node_lines}
use Rattle.report_lines.proofs.Lines.{line_ends_within}
use Rattle.report_lines.proofs.write_nodes.Goals as goal

pub write_line-rows-requires : goal.write_line-rows-requires
write_line-rows-requires c =
    omega (arith, line_ends_within _ _ c.write_line-windows.ensures (omega arith))

pub write_line-requires : goal.write_line-requires
write_line-requires c =
    omega (arith, line_ends_within _ _ c.write_line-windows.ensures (omega arith), line_ends_within _ _ c.write_line-rows.ensures (omega arith))

pub returns : goal.returns
unfolding node_lines
returns c =
    wrote_then c.write_line-windows.ensures (wrote_then c.write_line-rows.ensures c.write_line.ensures)
