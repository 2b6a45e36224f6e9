-- `count_pieces` meets its contract. The loop's invariant, `Counting`: the sum of what the pieces passed add. Assumes nothing.
use Prim.Native.Nat.{◌+◌, ◌-◌}
use lib.ListN.{length}
use Rattle.template_walk.proofs.Counting.{Counting}
use Rattle.template_walk.proofs.count_pieces.Given as goal

abbrev pub invariant-loop-step : goal.invariant-loop-step
invariant-loop-step l = Counting l.text l.entries l.added l.at l.sum

abbrev pub decreases-loop-step : goal.decreases-loop-step
decreases-loop-step l = length l.text + 1 - l.at
