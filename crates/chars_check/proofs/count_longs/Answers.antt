-- `count_longs` meets its contract. The loop's invariant, `Counting`: the count and what is left to count are all.
-- Assumes nothing.
use Rattle.chars_check.proofs.Longs.{counting_more, counting_next, counting_end}
use Rattle.chars_check.proofs.count_longs.Goals as goal
use Rattle.chars_check.proofs.count_longs.Goals.{then-byte-ge128, else-byte-ge128}

pub loop-byte-preserved : goal.loop-byte-preserved
loop-byte-preserved c =
    elim c.if-byte-ge128.branch [
      | then-byte-ge128 w ↦ rw w.count-is (counting_more c.loop-byte.invariant c.loop-byte-test.true w.if-byte-ge128.true)
      | else-byte-ge128 w ↦ rw w.count-is (counting_next c.loop-byte.invariant c.loop-byte-test.true w.if-byte-ge128.false)
    ]

pub returns : goal.returns
returns c = counting_end c.loop-byte.invariant c.loop-byte-test.false
