-- `sequences_in` meets its contract. The loop's invariant, `Naming`: the sequences that the pieces passed name. Assumes nothing.
use Prim.Native.Nat.{◌+◌, ◌-◌}
use lib.ListN.{length}
use Rattle.template_walk.proofs.Naming.{Naming}
use Rattle.template_walk.proofs.sequences_in.Given as goal

abbrev pub invariant-loop-step : goal.invariant-loop-step
invariant-loop-step l = Naming l.text l.at l.a l.b

abbrev pub decreases-loop-step : goal.decreases-loop-step
decreases-loop-step l = length l.text + 1 - l.at
