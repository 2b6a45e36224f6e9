-- `count_block` meets its contract. The loop's invariant, `Counting`: the count and what is left to count are all.
-- Assumes nothing.
use Rattle.chars_count.proofs.Counting.{counting_next, counting_end}
use Rattle.chars_count.proofs.count_block.Goals as goal

pub loop-byte-preserved : goal.loop-byte-preserved
loop-byte-preserved c = counting_next c.loop-byte.invariant _ c.start-count.ensures c.loop-byte-test.true

pub returns : goal.returns
returns c = counting_end c.loop-byte.invariant c.loop-byte-test.false
