-- `rows_fault` meets its contract. The loop's invariant, `Checking`: the rows from here on decide. Assumes nothing.
use Rattle.offsets_trees.specs.Offsets.{fault_by}
use Rattle.offsets_check.proofs.Faults.{Checking}
use Rattle.offsets_check.proofs.rows_fault.Given as goal

abbrev pub invariant-loop-i : goal.invariant-loop-i
invariant-loop-i l = Checking (fault_by l.way l.text) l.rows l.count l.i
