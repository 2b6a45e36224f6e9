-- `count_longs` meets its contract. The loop's invariant, `Counting`: the count and what is left to count are all.
-- Assumes nothing.
use Prim.Native.Nat.{◌-◌}
use lib.ListN.{length}
use Rattle.chars_check.proofs.Longs.{Counting}
use Rattle.chars_check.proofs.count_longs.Given as goal

abbrev pub invariant-loop-byte : goal.invariant-loop-byte
invariant-loop-byte l = Counting l.block l.byte-index l.count
