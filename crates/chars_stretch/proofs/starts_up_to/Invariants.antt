-- `starts_up_to` meets its contract, which is the loop's invariant too. Assumes nothing.
use Rattle.chars_stretch.specs.Promises.{StartsUpTo}
use Rattle.chars_stretch.proofs.starts_up_to.Given as goal

abbrev pub invariant-loop : goal.invariant-loop
invariant-loop l = StartsUpTo l.text l.from l.to
