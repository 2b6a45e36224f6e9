-- `present_of` counts the ranges: after k turns, those before place k. Assumes nothing.
use Rattle.lookup_ranges.proofs.Ranges.{present_more, present_same, present_end}
use native.Mathlib.Omega.{arith}
use Rattle.lookup_ranges.proofs.present_of.Goals as goal
use Rattle.lookup_ranges.proofs.present_of.Goals.{then-nodes-k-eq1, else-nodes-k-eq1}

pub loop-k-preserved : goal.loop-k-preserved
loop-k-preserved c =
    elim c.if-nodes-k-eq1.branch [
      | then-nodes-k-eq1 w ↦ (omega arith, λ rows E h. omega (arith, c.loop-k.invariant.1 rows E h, present_more h c.loop-k.k c.loop-k-test.true w.if-nodes-k-eq1.true))
      | else-nodes-k-eq1 w ↦ (omega arith, λ rows E h. omega (arith, c.loop-k.invariant.1 rows E h, present_same h c.loop-k.k c.loop-k-test.true w.if-nodes-k-eq1.false))
    ]

pub returns : goal.returns
returns c = λ rows E h. omega (arith, c.loop-k.invariant.1 rows E h, present_end h c.loop-k.k c.loop-k-test.false)
