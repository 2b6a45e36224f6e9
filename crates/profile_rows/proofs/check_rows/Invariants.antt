-- `check_rows` meets its contract. The loop's invariant, `Checking`: what was found is of the rows passed. Assumes nothing.
use Rattle.profile_rows.proofs.Checking.{Checking}
use Rattle.profile_rows.proofs.check_rows.Given as goal

abbrev pub invariant-loop-row : goal.invariant-loop-row
invariant-loop-row l = Checking l.rows l.first l.words l.node l.fn.stretch.start l.row-end l.initial.found l.found l.last l.row
