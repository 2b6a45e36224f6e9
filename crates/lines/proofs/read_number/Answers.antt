-- `lines::read_number` meets its contract. The loop's invariant, `Reading`: the digits passed have the value, and the rest are
-- those from here on. The measure is what is left of the bytes. Assumes nothing.
use mathlib.Core.Path.{◌≡◌}
use mathlib.Core.List.{[]}
use lib.ListN.{drop}
use Rattle.lines.specs.Decimal.{digits_of}
use Rattle.lines.proofs.Digits.{digits_end, digits_below, digits_above}
use Rattle.lines.proofs.Reading.{start, more, ends_too_many, ends_too_large, ends_without, ends_with}
use native.Mathlib.Omega.{arith}
use Rattle.lines.proofs.read_number.Goals as goal
use Rattle.lines.proofs.read_number.Goals.{Left-loop-i, else-loop-i-test, then-loop-i-test+then-byte-lt-ZERO, then-loop-i-test+else-byte-lt-ZERO+then-byte-gt-NINE}

pub loop-i-init : goal.loop-i-init
loop-i-init c = start _ _

pub returns-then-i-at-eq-MOST_DIGITS : goal.returns-then-i-at-eq-MOST_DIGITS
returns-then-i-at-eq-MOST_DIGITS c =
    ends_too_many _ _ _ _ c.loop-i.invariant c.loop-i-test.true c.if-byte-lt-ZERO.false c.if-byte-gt-NINE.false c.if-i-at-eq-MOST_DIGITS.true

pub returns-then-value-gt-LARGEST : goal.returns-then-value-gt-LARGEST
returns-then-value-gt-LARGEST c =
    ends_too_large _ _ _ _ c.loop-i.invariant c.loop-i-test.true c.if-byte-lt-ZERO.false c.if-byte-gt-NINE.false
    (omega arith)

pub loop-i-preserved : goal.loop-i-preserved
loop-i-preserved c =
    (more _ _ _ _ c.loop-i.invariant c.loop-i-test.true c.if-byte-lt-ZERO.false c.if-byte-gt-NINE.false
    (omega arith)
    (omega arith))

-- however the loop is left, no digit stands where it stopped
stops : (c : Left-loop-i) → digits_of (drop c.loop-i.i c.args.bytes.now) ≡ []
stops c =
    elim c.loop-i-test.branch [
      | else-loop-i-test ended ↦ digits_end _ _ ended.loop-i-test.false
      | then-loop-i-test+then-byte-lt-ZERO way ↦ digits_below _ _ way.loop-i-test.true way.if-byte-lt-ZERO.true
      | then-loop-i-test+else-byte-lt-ZERO+then-byte-gt-NINE way ↦ digits_above _ _ way.loop-i-test.true way.if-byte-lt-ZERO.false way.if-byte-gt-NINE.true
    ]

pub returns-then-i-at : goal.returns-then-i-at
returns-then-i-at c = ends_without _ _ _ _ c.loop-i.invariant (stops (goal.at.returns-then-i-at c).Left-loop-i) c.if-i-at.true

pub returns : goal.returns
returns c = ends_with _ _ _ _ c.loop-i.invariant (stops (goal.at.returns c).Left-loop-i) c.if-i-at.false
