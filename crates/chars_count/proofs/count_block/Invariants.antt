-- `count_block` meets its contract. The loop's invariant, `Counting`: the count and what is left to count are all.
-- Assumes nothing.
use Rattle.chars_count.proofs.Counting.{Counting}
use Rattle.chars_count.proofs.count_block.Given as goal

abbrev pub invariant-loop-byte : goal.invariant-loop-byte
invariant-loop-byte l = Counting l.block l.byte-index l.count
