-- `stretch_at` finds the end of the stretch. The loop's invariant, `Stretching`: no range before place k holds any of its rows.
-- Assumes nothing.
use mathlib.Core.Logic.{inl, inr}
use Rattle.profile_ranges.proofs.Stretching.{stretching_absent, stretching_there, stretching_found, stretching_end}
use native.Mathlib.Omega.{arith}
use Rattle.profile_ranges.proofs.stretch_at.Goals as goal
use Rattle.profile_ranges.proofs.stretch_at.Goals.{then-nodes-at-eq1+then-start-row+else-row-nodes, then-nodes-at-eq1+else-start-row+then-start-end, then-nodes-at-eq1+else-start-row+else-start-end, else-nodes-at-eq1}

pub returns-then-row-nodes : goal.returns-then-row-nodes
returns-then-row-nodes c =
    stretching_found c.loop-k.invariant c.loop-k-test.true c.if-nodes-at-eq1.true c.if-start-row.true c.if-row-nodes.true

pub loop-k-preserved : goal.loop-k-preserved
loop-k-preserved c =
    let inv = c.loop-k.invariant in
    let below = c.loop-k-test.true in
    elim c.if-nodes-at-eq1.branch [
      | then-nodes-at-eq1+then-start-row+else-row-nodes w ↦
          rw (w.end-is, w.words-is) (stretching_there inv _ below w.if-nodes-at-eq1.true inv.further (omega arith) (inr w.if-row-nodes.false))
      | then-nodes-at-eq1+else-start-row+then-start-end w ↦
          rw (w.end-is, w.words-is) (stretching_there inv _ below w.if-nodes-at-eq1.true w.if-start-row.false (omega (arith, w.if-start-end.true)) (inl (omega arith)))
      | then-nodes-at-eq1+else-start-row+else-start-end w ↦
          rw (w.end-is, w.words-is) (stretching_there inv _ below w.if-nodes-at-eq1.true inv.further (omega arith) (inl w.if-start-end.false))
      | else-nodes-at-eq1 w ↦ rw (w.end-is, w.words-is) (stretching_absent inv below w.if-nodes-at-eq1.false)
    ]

pub returns : goal.returns
returns c = stretching_end c.loop-k.invariant (omega arith) c.requires.2
