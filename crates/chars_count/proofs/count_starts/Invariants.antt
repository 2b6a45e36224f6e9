-- `count_starts` meets its contract. The loop's invariant, `Adding`: the count is that of the text up to here.
-- Assumes nothing.
use Prim.Native.Nat.{◌+◌, ◌*◌}
use Rattle.chars_count.proofs.Counting.{Adding}
use Rattle.chars_count.proofs.count_starts.Given as goal

abbrev pub invariant-loop-k : goal.invariant-loop-k
invariant-loop-k l = Adding l.text l.from l.to (l.from + l.k * 64) l.count
