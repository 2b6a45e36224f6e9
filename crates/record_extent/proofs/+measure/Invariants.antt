-- `measure` counts what stands there: whatever encodings stand at i, what is passed and what is left make them up.
-- Each call of itself starts further on. Assumes nothing.
use Rattle.std.proofs.Common.{◌-◌, length}
use Rattle.record.specs.Tree.{Forest}
use Rattle.record_extent.specs.Promises.{Stands}
use Rattle.record_extent.proofs.Passing.{Passed}
use Rattle.record_extent.proofs.+measure.Given as goal

abbrev pub decreases-measure : goal.decreases-measure
decreases-measure l = length l.nodes.now - l.i

abbrev pub invariant-loop : goal.invariant-loop
invariant-loop l = (f : Forest) → Stands l.nodes l.i l.tops f → Passed l.nodes l.i f (l.tops - l.counter) l.passed
