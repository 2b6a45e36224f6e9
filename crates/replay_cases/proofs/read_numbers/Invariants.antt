-- `read_numbers` meets its contract. The loop's invariant, `Gathering`: the numbers stored, and then the case from here
-- on, are the line's. The measure is what is left of the line. Assumes nothing.
use Prim.Native.Nat.{◌+◌, ◌-◌}
use lib.ListN.{length}
use Rattle.replay_cases.proofs.Gathering.{Gathering}
use Rattle.replay_cases.proofs.read_numbers.Given as goal

abbrev pub invariant-loop-value : goal.invariant-loop-value
invariant-loop-value l = Gathering l.line (length l.initial.numbers) l.numbers l.at l.count

abbrev pub decreases-loop-value : goal.decreases-loop-value
decreases-loop-value l = length l.line + 1 - l.at
