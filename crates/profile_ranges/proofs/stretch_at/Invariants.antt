-- `stretch_at` finds the end of the stretch. The loop's invariant, `Stretching`: no range before place k holds any of its rows.
-- Assumes nothing.
use lib.ListN.{get_or}
use Rattle.profile_ranges.proofs.Stretching.{Stretching}
use Rattle.profile_ranges.proofs.stretch_at.Given as goal

abbrev pub invariant-loop-k : goal.invariant-loop-k
invariant-loop-k l = Stretching l.nodes l.i (get_or l.nodes l.i 0) l.row l.end l.words l.k
