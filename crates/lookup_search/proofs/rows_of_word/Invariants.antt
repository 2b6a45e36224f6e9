-- `rows_of_word` walks the rows until one has a higher word. Assumes nothing.
use Rattle.lookup_search.proofs.Words.{Walked}
use Rattle.lookup_search.proofs.rows_of_word.Given as goal

abbrev pub invariant-loop-i : goal.invariant-loop-i
invariant-loop-i l = Walked l.rows l.word l.fn.start l.end l.first l.after l.i
