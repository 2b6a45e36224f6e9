-- `write_kinds` writes the lines of the three kinds of rows, each in the room that those before it leave. Assumes nothing.
use native.Mathlib.Omega.{arith}
use Rattle.listing_text.proofs.Wrote.{wrote_then}
use Rattle.report_lines.specs.Parts.{kind_lines}
use Rattle.report_lines.proofs.Lines.{line_ends_within}
use Rattle.report_lines.proofs.write_kinds.Goals as goal

pub write_line-rest-requires : goal.write_line-rest-requires
write_line-rest-requires c =
    omega (arith, c.requires, line_ends_within _ _ c.write_line-special.ensures (omega arith))

pub write_line-requires : goal.write_line-requires
write_line-requires c =
    omega (arith, c.requires, line_ends_within _ _ c.write_line-special.ensures (omega arith), line_ends_within _ _ c.write_line-rest.ensures (omega arith))

pub returns : goal.returns
unfolding kind_lines
returns c =
    wrote_then c.write_line-special.ensures (wrote_then c.write_line-rest.ensures c.write_line.ensures)
