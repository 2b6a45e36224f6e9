-- `bound_of_four` reads one column of four rows, which fit, and puts the numbers together. Assumes nothing.
use Rattle.join_reach.proofs.Bounds.{bits_of_four}
use Rattle.join_reach.proofs.bound_of_four.Goals as goal

pub returns : goal.returns
returns c = bits_of_four _ _
