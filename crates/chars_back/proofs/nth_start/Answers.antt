-- `nth_start` meets its contract. The loop's invariant, `Seeking`: what is looked for from here on is what was looked for.
-- Assumes nothing.
use Rattle.chars_back.proofs.Seeking.{seeking_start, seeking_on, seeking_few, seeking_past, seeking_rest}
use native.Mathlib.Omega.{arith}
use Rattle.chars_back.proofs.nth_start.Goals as goal

pub loop-left-init : goal.loop-left-init
loop-left-init c = seeking_start _ _ _ c.requires

pub returns-then-text-at : goal.returns-then-text-at
returns-then-text-at c = seeking_past c.loop-left.invariant c.if-text-at.true

pub overflow_sub-left : goal.overflow_sub-left
overflow_sub-left c = seeking_few c.loop-left.invariant _ c.count_starts-left.ensures

pub loop-left-preserved : goal.loop-left-preserved
loop-left-preserved c =
    let inv = c.loop-left.invariant in
    seeking_on inv _ _ (omega arith) (omega (arith, inv.inside, c.if-text-at.false)) c.count_starts-left.ensures (seeking_few inv _ c.count_starts-left.ensures)

pub returns : goal.returns
returns c = seeking_rest c.loop-left.invariant _ c.step_on.ensures
