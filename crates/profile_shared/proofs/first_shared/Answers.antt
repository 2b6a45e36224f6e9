-- `first_shared` finds the first row in two ranges. The loop's invariant, `Sharing`: what is found so far is no later than any
-- such start before place k. Assumes nothing.
use mathlib.Core.Logic.{inl, inr}
use Rattle.profile_shared.proofs.Sharing.{sharing_same, sharing_found, sharing_end}
use native.Mathlib.Omega.{arith}
use Rattle.profile_shared.proofs.first_shared.Goals as goal
use Rattle.profile_shared.proofs.first_shared.Goals.{then-nodes-at-eq1+then-start-first+then-count_holding-gt1, then-nodes-at-eq1+then-start-first+else-count_holding-gt1, then-nodes-at-eq1+else-start-first, else-nodes-at-eq1}

pub loop-k-preserved : goal.loop-k-preserved
loop-k-preserved c =
    let inv = c.loop-k.invariant in
    let below = c.loop-k-test.true in
    elim c.if-nodes-at-eq1.branch [
      | then-nodes-at-eq1+then-start-first+then-count_holding-gt1 w ↦
          rw w.first-is (sharing_found inv below w.if-start-first.true (omega (arith, w.count_holding.ensures, w.if-count_holding-gt1.true)))
      | then-nodes-at-eq1+then-start-first+else-count_holding-gt1 w ↦
          rw w.first-is (sharing_same inv below (inr (inr (omega (arith, w.count_holding.ensures, w.if-count_holding-gt1.false)))))
      | then-nodes-at-eq1+else-start-first w ↦ rw w.first-is (sharing_same inv below (inr (inl w.if-start-first.false)))
      | else-nodes-at-eq1 w ↦ rw w.first-is (sharing_same inv below (inl w.if-nodes-at-eq1.false))
    ]

pub returns : goal.returns
returns c = sharing_end c.loop-k.invariant (omega arith)
