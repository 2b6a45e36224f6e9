-- `rows_ok` decides whether the marks of every whole row are fine: those of the rows before i are judged. Assumes nothing.
use Rattle.record_fields.proofs.Together.{Judged}
use Rattle.record_fields.proofs.rows_ok.Given as goal

abbrev pub invariant-loop-i : goal.invariant-loop-i
invariant-loop-i l = Judged l.rows l.i l.marks l.lowest
