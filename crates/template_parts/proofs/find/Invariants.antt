-- `find` meets its contract. The loop's invariant, `Looking`: the bytes passed are of other kinds. Assumes nothing.
use Rattle.template_parts.proofs.Finding.{Looking}
use Rattle.template_parts.proofs.find.Given as goal

abbrev pub invariant-loop-i : goal.invariant-loop-i
invariant-loop-i l = Looking l.text l.at l.byte l.i
