-- `nth_start` meets its contract. The loop's invariant, `Seeking`: what is looked for from here on is what was looked for.
-- Assumes nothing.
use Prim.Native.Nat.{◌-◌}
use lib.ListN.{length}
use Rattle.chars_back.proofs.Seeking.{Seeking}
use Rattle.chars_back.proofs.nth_start.Given as goal

abbrev pub invariant-loop-left : goal.invariant-loop-left
invariant-loop-left l = Seeking l.text l.from l.count l.at l.left

abbrev pub decreases-loop-left : goal.decreases-loop-left
decreases-loop-left l = length l.text - l.at
