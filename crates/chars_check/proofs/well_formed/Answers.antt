-- `well_formed` meets its contract. The loop's invariant, `Walking`: what is left from here on decides. Assumes nothing.
use Rattle.chars_check.proofs.Passing.{walking_start, walking_on, text_broken, text_rest}
use native.Mathlib.Omega.{arith}
use Rattle.chars_check.proofs.well_formed.Goals as goal

pub loop-at-init : goal.loop-at-init
loop-at-init c = walking_start _ _ (omega arith)

pub overflow_sub-text : goal.overflow_sub-text
overflow_sub-text c = c.loop-at.invariant.inside

pub returns-then-next-at : goal.returns-then-next-at
returns-then-next-at c = text_broken c.loop-at.invariant c.pass_block-next.ensures c.if-next-at.true

pub loop-at-preserved : goal.loop-at-preserved
loop-at-preserved c = walking_on c.loop-at.invariant _ c.pass_block-next.ensures

pub returns : goal.returns
returns c = text_rest c.loop-at.invariant c.walk.ensures
