-- `first_shared` finds the first row in two ranges. The loop's invariant, `Sharing`: what is found so far is no later than any
-- such start before place k. Assumes nothing.
use lib.ListN.{get_or}
use Rattle.profile_shared.proofs.Sharing.{Sharing}
use Rattle.profile_shared.proofs.first_shared.Given as goal

abbrev pub invariant-loop-k : goal.invariant-loop-k
invariant-loop-k l = Sharing l.nodes l.i (get_or l.nodes l.i 0) l.first l.k
