-- `read_number` meets its contract. The loop's invariant, `Reading`: the digits passed have the value, and the rest are those
-- from here on. The measure is what is left of the text. Assumes nothing.
use Rattle.template_numbers.proofs.Digits.{begin, no_digits, ends_below, ends_above, ends_too_large, more, ends_with}
use native.Mathlib.Omega.{arith}
use Rattle.template_numbers.proofs.read_number.Goals as goal

pub returns-then-start-text : goal.returns-then-start-text
returns-then-start-text c = no_digits c.after_sign-start.ensures c.if-start-text.true

pub loop-i-init : goal.loop-i-init
loop-i-init c = begin c.after_sign-start.ensures c.if-start-text.false

pub returns-then-byte-lt-ZERO : goal.returns-then-byte-lt-ZERO
returns-then-byte-lt-ZERO c = ends_below c.loop-i.invariant c.loop-i-test.true c.if-byte-lt-ZERO.true

pub returns-then-byte-gt-NINE : goal.returns-then-byte-gt-NINE
returns-then-byte-gt-NINE c =
    ends_above c.loop-i.invariant c.loop-i-test.true c.if-byte-lt-ZERO.false c.if-byte-gt-NINE.true

pub returns-then-value-gt-LARGEST : goal.returns-then-value-gt-LARGEST
returns-then-value-gt-LARGEST c =
    ends_too_large c.loop-i.invariant c.loop-i-test.true c.if-byte-lt-ZERO.false c.if-byte-gt-NINE.false
    (omega arith)

pub loop-i-preserved : goal.loop-i-preserved
loop-i-preserved c =
    (more c.loop-i.invariant c.loop-i-test.true c.if-byte-lt-ZERO.false c.if-byte-gt-NINE.false
    (omega arith))

pub returns : goal.returns
returns c = ends_with c.loop-i.invariant c.loop-i-test.false
