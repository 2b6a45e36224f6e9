-- `count_holding` counts the ranges that hold the row. The loop's invariant, `Counting`: those before place k are counted.
-- Assumes nothing.
use Rattle.profile_shared.proofs.Counting.{Counting}
use Rattle.profile_shared.proofs.count_holding.Given as goal

abbrev pub invariant-loop-k : goal.invariant-loop-k
invariant-loop-k l = Counting l.nodes l.i l.row l.count l.k
