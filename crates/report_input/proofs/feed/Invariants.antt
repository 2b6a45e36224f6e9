-- `feed` takes a piece step by step: after each, what is held says the same of the input (`Taking`). Assumes nothing.
use mathlib.Core.Path.{◌≡◌}
use Prim.Native.Nat.{◌-◌}
use lib.ListN.{length}
use Rattle.report_input.proofs.Pieces.{Taking}
use Rattle.report_input.proofs.feed.Given as goal

abbrev pub invariant-loop-step : goal.invariant-loop-step
invariant-loop-step l = Taking l.piece l.initial.step.held l.initial.batch l.step l.batch × (length l.batch ≡ length l.initial.batch) × (length l.numbers ≡ length l.initial.numbers)

abbrev pub decreases-loop-step : goal.decreases-loop-step
decreases-loop-step l = length l.piece - l.step.at
