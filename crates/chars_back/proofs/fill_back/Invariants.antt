-- `fill_back` meets its contract. The loop's invariant, `BackFilling`: the entries up to here are right. Assumes nothing.
use Rattle.chars_back.proofs.Back.{BackFilling}
use Rattle.chars_back.proofs.fill_back.Given as goal

abbrev pub invariant-loop-k : goal.invariant-loop-k
invariant-loop-k l = BackFilling l.text l.table l.block l.k l.at
