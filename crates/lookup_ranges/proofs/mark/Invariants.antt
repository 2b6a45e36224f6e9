-- `mark` marks the rows of a sequence: after turn i, those up to row i. Assumes nothing.
use Rattle.lookup_ranges.specs.Promises.{Marks}
use Rattle.lookup_ranges.proofs.Marking.{from_to_lem}
use Rattle.lookup_ranges.proofs.mark.Given as goal

abbrev pub invariant-loop-i : goal.invariant-loop-i
invariant-loop-i l = Marks (from_to_lem l.fn.rows.start l.i) l.id l.initial.out l.out
