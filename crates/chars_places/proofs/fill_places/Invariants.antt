-- `fill_places` meets its contract. The loop's invariant, `Filling`: the entries up to here are right. Assumes nothing.
use Rattle.chars_places.proofs.Table.{Filling}
use Rattle.chars_places.proofs.fill_places.Given as goal

abbrev pub invariant-loop-k : goal.invariant-loop-k
invariant-loop-k l = Filling l.text l.table l.block l.k l.count
