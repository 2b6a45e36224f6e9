-- `put_bytes`: the first i numbers stand at the start of the bytes. Assumes nothing.
use Rattle.std.proofs.Common.{◌≡◌, length}
use lib.ListN.{take}
use Rattle.replay_bytes.proofs.put_bytes.Given as goal

abbrev pub invariant-loop-i : goal.invariant-loop-i
invariant-loop-i l = (length l.bytes ≡ length l.initial.bytes) × (take l.i l.bytes ≡ take l.i l.numbers)
