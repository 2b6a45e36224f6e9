-- `lay_present` lays the ranges one after another: after k turns, those of the first k sequences. Assumes nothing.
use Rattle.join_ranges.proofs.Laying.{Laying}
use Rattle.join_ranges.proofs.lay_present.Given as goal

abbrev pub invariant-loop-k : goal.invariant-loop-k
invariant-loop-k l = Laying l.shift l.initial.nodes l.at l.p_nodes l.i l.nodes l.k
