-- `step_on` meets its contract. The loop's invariant, `Seeking`: what is looked for from here on is what was looked for.
-- Assumes nothing.
use Rattle.chars_back.proofs.Seeking.{seeking_start, seeking_byte, seeking_here, seeking_end}
use Rattle.chars_back.proofs.step_on.Goals as goal

pub loop-at-init : goal.loop-at-init
loop-at-init c = seeking_start _ _ _ c.requires

pub returns-then-left-here : goal.returns-then-left-here
returns-then-left-here c =
    seeking_here c.loop-at.invariant _ c.start-here.ensures c.loop-at-test.true c.if-left-here.true

pub loop-at-preserved : goal.loop-at-preserved
loop-at-preserved c =
    seeking_byte c.loop-at.invariant _ c.start-here.ensures c.loop-at-test.true c.if-left-here.false

pub returns : goal.returns
returns c = seeking_end c.loop-at.invariant c.loop-at-test.false
