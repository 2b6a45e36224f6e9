-- `step_at` follows the cases of its definition. Assumes nothing.
use borrow.Author.Tests.{eq-eqb, ne_eqb}
use Rattle.process_steps.specs.Steps.{step_at}
use Rattle.process_steps.proofs.step_at.Goals as goal

pub returns-then-kind-eq-A : goal.returns-then-kind-eq-A
unfolding step_at
returns-then-kind-eq-A c = rw (eq-eqb _ _ c.if-kind-eq-A.true)

pub returns-then-kind-eq-B : goal.returns-then-kind-eq-B
unfolding step_at
returns-then-kind-eq-B c = rw (ne_eqb _ _ c.if-kind-eq-A.false, eq-eqb _ _ c.if-kind-eq-B.true)

pub returns : goal.returns
unfolding step_at
returns c = rw (ne_eqb _ _ c.if-kind-eq-A.false, ne_eqb _ _ c.if-kind-eq-B.false)
