-- `count_kinds` counts row by row: after i turns, the kinds of the first i (`Counting`). Assumes nothing.
use Rattle.report_rows.proofs.Counting.{Counting}
use Rattle.report_rows.proofs.count_kinds.Given as goal

abbrev pub invariant-loop-i : goal.invariant-loop-i
invariant-loop-i l = Counting l.rows l.padding l.special l.rest l.i
