-- How long the program goes on reading.
-- Assumes nothing: this is a definition.
use Rattle.std.specs.Prelude.{Bool, false, Result, Ok, Err}
use Rattle.input_lines.specs.declared.Unread.{Unread}
use Rattle.record.specs.declared.Refusal.{Refusal}
use Rattle.report_trees.specs.declared.Report.{Report}

-- whether another piece is read after one: not once the input is refused, whatever follows, or has ended
abbrev pub goes_on : Unread → Result Report Refusal → Bool
goes_on unread (Err why) = false
goes_on unread (Ok r) = unread.open
