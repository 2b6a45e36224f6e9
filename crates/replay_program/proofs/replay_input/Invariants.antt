-- `replay_input` keeps counts that agree. Assumes nothing.
use Rattle.replay_counts.specs.Counting.{Tallied}
use Rattle.replay_program.proofs.replay_input.Given as goal

abbrev pub invariant-loop : goal.invariant-loop
invariant-loop g l = Tallied l.progress
