-- `all_known` meets its contract. The outer loop's invariant, `Knowing`: the pieces passed have known ids; the inner one's,
-- `Seeking`: no entry passed has the id. Assumes nothing.
use Prim.Native.Nat.{◌+◌, ◌-◌}
use lib.ListN.{length}
use Rattle.template_known.proofs.Knowing.{Seeking, Knowing}
use Rattle.template_known.proofs.all_known.Given as goal

abbrev pub invariant-loop-i : goal.invariant-loop-i
invariant-loop-i l = Seeking l.entries l.added l.id l.i

abbrev pub invariant-parts : goal.invariant-parts
invariant-parts l = Knowing l.text l.entries l.added l.at

abbrev pub decreases-parts : goal.decreases-parts
decreases-parts l = length l.text + 1 - l.at
