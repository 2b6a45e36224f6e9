-- `fold_each` writes the empty encoding and folds one encoding more each turn. Assumes nothing.
use Prim.Native.Nat.{◌-◌}
use lib.ListN.{length}
use Rattle.fold_each.proofs.Going.{Going}
use Rattle.fold_each.proofs.fold_each.Given as goal

abbrev pub invariant-loop-i : goal.invariant-loop-i
invariant-loop-i l =
    Going l.nodes l.rows l.growing l.initial.out_nodes l.initial.out_rows l.initial.working_nodes l.initial.working_rows l.out_nodes l.out_rows l.working_nodes l.working_rows l.i l.j

abbrev pub decreases-loop-i : goal.decreases-loop-i
decreases-loop-i l = length l.nodes - l.i
