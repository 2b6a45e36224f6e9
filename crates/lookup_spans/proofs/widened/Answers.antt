-- `widened` takes in one row: it does not count, or it does. Assumes nothing.
use native.Mathlib.Omega.{arith}
use Rattle.lookup_spans.proofs.Passing.{step_special, step_plain}
use Rattle.lookup_spans.proofs.widened.Goals as goal

pub returns-then-mask-ne0 : goal.returns-then-mask-ne0
returns-then-mask-ne0 c s e = step_special _ _ _ s e c.if-mask-ne0.true

pub returns : goal.returns
returns c s e = rw (c.min.ensures, c.max.ensures) (step_plain _ _ _ _ s (omega arith) e c.if-mask-ne0.false)
