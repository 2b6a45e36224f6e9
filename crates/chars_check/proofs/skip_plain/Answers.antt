-- `skip_plain` meets its contract, which is the loop's invariant too. Assumes nothing.
use mathlib.Core.Path.{◌≡◌}
use native.Mathlib.Omega.{arith}
use Rattle.chars_check.proofs.Passing.{plain_start, plain_more}
use Rattle.chars_check.proofs.skip_plain.Goals as goal

pub loop-at-init : goal.loop-at-init
loop-at-init c = plain_start _ _ _ c.requires.0

pub loop-at-preserved : goal.loop-at-preserved
loop-at-preserved c = plain_more c.loop-at.invariant c.loop-at-test.true c.requires.1 c.if-text-at-ge128.false

pub returns : goal.returns
returns c =
    let last : c.loop-at.at ≡ c.args.to = omega arith in
    rw last at c.loop-at.invariant
