-- `first_holding` walks the rows until one holds the place. Assumes nothing.
use Rattle.lookup_search.proofs.Holding.{Passed}
use Rattle.lookup_search.proofs.first_holding.Given as goal

abbrev pub invariant-loop-i : goal.invariant-loop-i
invariant-loop-i l = Passed l.rows l.place l.fn.start l.end l.i
