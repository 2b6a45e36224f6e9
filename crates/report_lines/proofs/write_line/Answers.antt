-- `write_line` writes the word and the number with a newline after it. Assumes nothing.
use Rattle.listing_text.proofs.Wrote.{wrote_then}
use Rattle.report_lines.specs.Lines.{number_line}
use Rattle.report_lines.proofs.write_line.Goals as goal

pub returns : goal.returns
unfolding number_line
returns c = wrote_then c.write_text-number.ensures c.write_ended.ensures
