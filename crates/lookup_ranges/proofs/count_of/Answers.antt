-- `count_of` is the number of ranges, or 1. Assumes nothing.
use native.Mathlib.Omega.{arith}
use Rattle.lookup_ranges.proofs.Ranges.{count_is}
use Rattle.lookup_ranges.proofs.count_of.Goals as goal

pub returns : goal.returns
returns c = λ rows E h. omega (arith, c.present_of.ensures rows E h, count_is E)
