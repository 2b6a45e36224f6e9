-- `size_of` adds up the levels of the profile, if what was measured is within the limits. Assumes nothing.
use Rattle.join_size.proofs.Sizes.{sizes_measured, sizes_too_large}
use Rattle.join_size.proofs.size_of.Goals as goal

pub nodes_in-requires : goal.nodes_in-requires
nodes_in-requires c = rw c.in-Some.is at c.requires

pub rows_in-requires : goal.rows_in-requires
rows_in-requires c = rw c.in-Some.is at c.requires

pub returns-in-None : goal.returns-in-None
returns-in-None c = λ E m. sizes_too_large E (rw c.in-None.is at m)

pub returns-in-Some : goal.returns-in-Some
returns-in-Some c = λ E m. sizes_measured E (rw c.in-Some.is at m) c.nodes_in.ensures c.rows_in.ensures
