-- `write_windows` writes the windows one after another: after i turns the first i stand there. Assumes nothing.
use Rattle.cut_plan.specs.Cut.{windows_of}
use Rattle.cut_windows.proofs.Going.{Going}
use Rattle.cut_windows.proofs.write_windows.Given as goal

abbrev pub invariant-loop-i : goal.invariant-loop-i
invariant-loop-i l =
    Going l.rows l.j l.n (windows_of l.n l.max l.stride l.direction) l.initial.out_nodes l.a l.initial.out_rows l.b l.out_nodes l.out_rows l.node l.row l.i
