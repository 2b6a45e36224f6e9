-- `write_steps` writes the empty encoding and takes one step more each turn. Assumes nothing.
use Rattle.process_write.proofs.Along.{Going}
use Rattle.process_write.proofs.write_steps.Given as goal

abbrev pub invariant-loop-i : goal.invariant-loop-i
invariant-loop-i l =
    Going l.nodes l.rows l.second l.entries l.members l.steps l.count l.initial.out_nodes l.initial.out_rows l.initial.working_nodes l.initial.working_rows l.out_nodes l.out_rows l.working_nodes l.working_rows l.i
