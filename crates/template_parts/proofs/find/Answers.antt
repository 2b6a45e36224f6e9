-- `find` meets its contract. The loop's invariant, `Looking`: the bytes passed are of other kinds. Assumes nothing.
use Rattle.template_parts.proofs.Finding.{start, next, found, nowhere}
use native.Mathlib.Omega.{arith}
use Rattle.template_parts.proofs.find.Goals as goal

pub loop-i-init : goal.loop-i-init
loop-i-init c = start _ _ _ c.requires

pub returns-then-text-i : goal.returns-then-text-i
returns-then-text-i c = found c.loop-i.invariant c.loop-i-test.true c.if-text-i.true

pub loop-i-preserved : goal.loop-i-preserved
loop-i-preserved c = next c.loop-i.invariant c.loop-i-test.true c.if-text-i.false

pub returns : goal.returns
returns c = nowhere c.loop-i.invariant (omega arith)
