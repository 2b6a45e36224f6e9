-- `write_answer` writes the line of a refusal or the lines of a report. Assumes nothing.
use mathlib.Core.Path.{sym, ap, ◌∙◌}
use Rattle.listing_text.specs.Text.{bytes}
use Rattle.listing_text.proofs.Wrote.{wrote_as}
use Rattle.report_lines.specs.Lines.{number_line, answer_lines}
use Rattle.report_lines.proofs.write_answer.Goals as goal

pub returns-in-Err : goal.returns-in-Err
unfolding answer_lines
returns-in-Err c =
    let e = c.in-Err.is in
    wrote_as (ap (number_line (bytes "refused ")) c.number.ensures ∙ ap answer_lines (sym e)) c.write_line.ensures

pub returns-in-Ok : goal.returns-in-Ok
unfolding answer_lines
returns-in-Ok c = wrote_as (ap answer_lines (sym c.in-Ok.is)) c.write_report.ensures
