-- `count_parts` meets its contract. The loop's invariant, `Counting`: the count and the parts of the rest are one more than
-- the parts of the text. Assumes nothing.
use Rattle.template_parts.proofs.Parts.{start, at_space, at_other, at_end}
use Rattle.template_parts.proofs.count_parts.Goals as goal
use Rattle.template_parts.proofs.count_parts.Goals.{then-byte-eq-SPACE, else-byte-eq-SPACE}

pub loop-byte-init : goal.loop-byte-init
loop-byte-init c = start _

pub loop-byte-preserved : goal.loop-byte-preserved
loop-byte-preserved c =
    elim c.if-byte-eq-SPACE.branch [
      | then-byte-eq-SPACE w ↦ rw w.count-is (at_space c.loop-byte.invariant c.loop-byte-test.true w.if-byte-eq-SPACE.true)
      | else-byte-eq-SPACE w ↦ rw w.count-is (at_other c.loop-byte.invariant c.loop-byte-test.true w.if-byte-eq-SPACE.false)
    ]

pub returns : goal.returns
returns c = at_end c.loop-byte.invariant c.loop-byte-test.false
