-- `fractions::gcd` meets its contract. The loop's invariant: the two numbers have the divisor of the two that were given.
-- The measure is the second number, since a remainder is below what it is divided by. Assumes nothing.
use mathlib.Core.Path.{◌≡◌, sym, ap, ◌∙◌}
use native.Mathlib.Omega.{arith}
use Rattle.fractions.specs.Fractions.{gcd_of}
use Rattle.fractions.proofs.Divisors.{gcd_end, gcd_step}
use Rattle.fractions.proofs.gcd.Goals as goal

pub loop-b-preserved : goal.loop-b-preserved
loop-b-preserved c = sym (gcd_step _ _ (omega arith)) ∙ c.loop-b.invariant

pub returns : goal.returns
returns c =
    let last = c.loop-b in
    let none_left : last.b ≡ 0 = omega arith in
    sym (ap (gcd_of last.a) none_left ∙ gcd_end last.a) ∙ last.invariant
