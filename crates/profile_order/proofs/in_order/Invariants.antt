-- `in_order` meets its contract. The loop's invariant, `Ordering`: the ranges passed have ended where the next may begin. Assumes nothing.
use Rattle.profile_order.proofs.Ordering.{Ordering}
use Rattle.profile_order.proofs.in_order.Given as goal

abbrev pub invariant-loop-k : goal.invariant-loop-k
invariant-loop-k l = Ordering l.nodes l.i l.k l.end
