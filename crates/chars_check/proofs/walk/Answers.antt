-- `walk` meets its contract. The loop's invariant, `Walking`: what is left from here on decides. Assumes nothing.
use Rattle.chars_check.proofs.Passing.{walking_start, walking_size, walking_more, walking_stop, walking_there}
use native.Mathlib.Omega.{arith}
use Rattle.chars_check.proofs.walk.Goals as goal

pub loop-at-init : goal.loop-at-init
loop-at-init c = walking_start _ _ (omega arith)

pub returns-then-size-eq0 : goal.returns-then-size-eq0
returns-then-size-eq0 c = walking_stop c.loop-at.invariant _ _ c.character_at-size.ensures c.if-size-eq0.true

pub overflow_add-at : goal.overflow_add-at
overflow_add-at c = omega (arith, walking_size c.loop-at.invariant _ c.character_at-size.ensures)

pub loop-at-preserved : goal.loop-at-preserved
loop-at-preserved c = walking_more c.loop-at.invariant _ c.character_at-size.ensures c.if-size-eq0.false

pub returns : goal.returns
returns c = walking_there c.loop-at.invariant _ c.loop-at-test.false
