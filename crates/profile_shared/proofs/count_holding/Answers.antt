-- `count_holding` counts the ranges that hold the row. The loop's invariant, `Counting`: those before place k are counted.
-- Assumes nothing.
use native.Mathlib.Omega.{arith}
use mathlib.Core.Logic.{inl, inr}
use Rattle.profile_shared.proofs.Counting.{counting_start, counting_more, counting_same, counting_end}
use Rattle.profile_shared.proofs.count_holding.Goals as goal
use Rattle.profile_shared.proofs.count_holding.Goals.{then-nodes-at-eq1+then-nodes-at+then-row-nodes, else-nodes-at-eq1, else-nodes-at-eq1-via-then-nodes-at-eq1+then-nodes-at+else-row-nodes, else-nodes-at-eq1-via-then-nodes-at-eq1+else-nodes-at, else-nodes-at-eq1-via-else-nodes-at-eq1}

pub loop-k-init : goal.loop-k-init
loop-k-init c = counting_start _ _ _

pub loop-k-preserved : goal.loop-k-preserved
loop-k-preserved c =
    let row = c.args.row in
    let inv = c.loop-k.invariant in
    let below = c.loop-k-test.true in
    elim c.if-nodes-at-eq1.branch [
      | then-nodes-at-eq1+then-nodes-at+then-row-nodes w ↦
          rw w.count-is (counting_more inv below w.if-nodes-at-eq1.true w.if-nodes-at.true w.if-row-nodes.true)
      | else-nodes-at-eq1 w ↦ rw w.count-is (counting_same inv below
          (elim w.else-nodes-at-eq1.branch [
            | else-nodes-at-eq1-via-then-nodes-at-eq1+then-nodes-at+else-row-nodes v ↦ inr (inr v.if-row-nodes.false)
            | else-nodes-at-eq1-via-then-nodes-at-eq1+else-nodes-at v ↦ inr (inl v.if-nodes-at.false)
            | else-nodes-at-eq1-via-else-nodes-at-eq1 v ↦ inl v.if-nodes-at-eq1.false
          ]))
    ]

pub returns : goal.returns
returns c = counting_end c.loop-k.invariant (omega arith)
