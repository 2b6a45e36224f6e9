-- `plan` meets its contract. The loop's invariant, `Planning`: the steps of the pieces passed have been written. The measure is
-- what is left of the text. Assumes nothing.
use Prim.Native.Nat.{◌+◌, ◌-◌}
use lib.ListN.{length}
use Rattle.process_plan.proofs.Planning.{Planning}
use Rattle.process_plan.proofs.plan.Given as goal

abbrev pub invariant-loop-coming : goal.invariant-loop-coming
invariant-loop-coming l = Planning l.text l.add_special_tokens l.entries l.added l.initial.steps l.at l.count l.steps

abbrev pub decreases-loop-coming : goal.decreases-loop-coming
decreases-loop-coming l = length l.text + 1 - l.at
