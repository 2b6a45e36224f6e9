-- `fractions::gcd` meets its contract. The loop's invariant: the two numbers have the divisor of the two that were given.
-- The measure is the second number, since a remainder is below what it is divided by. Assumes nothing.
use mathlib.Core.Path.{◌≡◌}
use Rattle.fractions.specs.Fractions.{gcd_of}
use Rattle.fractions.proofs.gcd.Given as goal

abbrev pub invariant-loop-b : goal.invariant-loop-b
invariant-loop-b l = gcd_of l.a l.b ≡ gcd_of l.first l.second

abbrev pub decreases-loop-b : goal.decreases-loop-b
decreases-loop-b l = l.b
