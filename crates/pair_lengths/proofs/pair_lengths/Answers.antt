-- What `pair_lengths` tells is what it is defined to be, so it keeps what is said of that. Assumes nothing.
use native.Mathlib.Omega.{arith}
use Rattle.std.proofs.lemmas.Grind.{common_steps}
use Rattle.pair_lengths.specs.Lengths.{pair_lengths}
use Rattle.pair_lengths.proofs.Keeps.{lengths_keep}
use Rattle.pair_lengths.proofs.pair_lengths.Goals as goal

pub returns-in_err-kept-clause-keeps : goal.returns-in_err-kept-clause-keeps
unfolding pair_lengths
returns-in_err-kept-clause-keeps c = let v = c.args in lengths_keep v.first v.second v.max_length v.strategy (grind (arith, common_steps))

pub returns-clause-keeps : goal.returns-clause-keeps
unfolding pair_lengths
returns-clause-keeps c = let v = c.args in lengths_keep v.first v.second v.max_length v.strategy (grind (arith, common_steps))
