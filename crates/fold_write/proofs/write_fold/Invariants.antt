-- `write_fold` writes the empty encoding, folds what comes next each turn, and zeroes the working store. Assumes nothing.
use Prim.Native.Nat.{◌-◌}
use lib.ListN.{length}
use Rattle.fold_each.proofs.Going.{Going}
use Rattle.fold_write.proofs.write_fold.Given as goal

abbrev pub invariant-loop-at : goal.invariant-loop-at
invariant-loop-at l =
    Going l.nodes l.rows l.growing l.initial.out_nodes l.initial.out_rows l.initial.working_nodes l.initial.working_rows l.out_nodes l.out_rows l.working_nodes l.working_rows l.at.node l.at.row

abbrev pub decreases-loop-at : goal.decreases-loop-at
decreases-loop-at l = length l.nodes - l.at.node
