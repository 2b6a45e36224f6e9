-- `run_from` goes from node to node while they have no windows. Assumes nothing.
use Rattle.record.specs.Tree.{Forest}
use Rattle.record.specs.Passing.{NodesToCome}
use Rattle.fold_run.specs.Promises.{BeginsWith}
use Rattle.fold_run.proofs.Runs.{sized}
use Rattle.fold_run.proofs.run_from.Given as goal

abbrev pub invariant-loop-count : goal.invariant-loop-count
invariant-loop-count l = (f : Forest) → NodesToCome l.nodes l.i f → BeginsWith l.nodes l.i f (sized l.count l.rows)
