-- `in_order` meets its contract. The loop's invariant, `Ordering`: the ranges passed have ended where the next may begin. Assumes nothing.
use native.Mathlib.Omega.{arith}
use mathlib.Core.Bool.{false≢true}
use Rattle.profile_order.proofs.Ordering.{ordering_start, ordering_absent, ordering_next, ordering_end}
use Rattle.profile_order.proofs.in_order.Goals as goal
use Rattle.profile_order.proofs.in_order.Goals.{then-nodes-at-eq1+else-nodes-at, else-nodes-at-eq1}

pub loop-k-init : goal.loop-k-init
loop-k-init c = ordering_start _ _

pub returns-then-nodes-at : goal.returns-then-nodes-at
returns-then-nodes-at c = λ e. absurd (false≢true e)

pub loop-k-preserved : goal.loop-k-preserved
loop-k-preserved c =
    let o = c.loop-k.invariant in
    let below = c.loop-k-test.true in
    elim c.if-nodes-at-eq1.branch [
      | then-nodes-at-eq1+else-nodes-at w ↦
          rw w.end-is (ordering_next o below _ w.if-nodes-at.false w.max-end.ensures)
      | else-nodes-at-eq1 w ↦ rw w.end-is (ordering_absent o below w.if-nodes-at-eq1.false)
    ]

pub returns : goal.returns
returns c = λ e row. ordering_end c.loop-k.invariant (omega arith) row
