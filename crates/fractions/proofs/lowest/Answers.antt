-- `fractions::lowest` meets its contract. It divides by no 0, since a number that is not 0 has no divisor 0.
-- Assumes nothing.
use mathlib.Core.Path.{sym}
use native.Mathlib.Omega.{arith}
use Rattle.fractions.proofs.Divisors.{gcd_some}
use Rattle.fractions.proofs.LowestTerms.{lowest_none, lowest_some}
use Rattle.fractions.proofs.lowest.Goals as goal

pub returns-then-whole-eq0 : goal.returns-then-whole-eq0
returns-then-whole-eq0 c = rw c.if-whole-eq0.true (sym (lowest_none c.args.part))

pub nonzero_div-result : goal.nonzero_div-result
nonzero_div-result c = rw c.gcd-divisor.ensures (gcd_some _ _ (omega arith))

pub nonzero_div-result-2 : goal.nonzero_div-result-2
nonzero_div-result-2 = nonzero_div-result

pub returns : goal.returns
returns c =
    let args = c.args in
    rw c.gcd-divisor.ensures (sym (lowest_some args.part args.whole (omega arith)))
