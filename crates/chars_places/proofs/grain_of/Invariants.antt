-- `grain_of` meets its contract. The loop's invariant, `Doubling`: the block is a power of two. Assumes nothing.
use Prim.Native.Nat.{◌-◌}
use Rattle.chars_places.specs.Promises.{Doubling}
use Rattle.chars_places.proofs.grain_of.Given as goal

abbrev pub invariant-loop-block : goal.invariant-loop-block
invariant-loop-block l = Doubling l.shift l.block

abbrev pub decreases-loop-block : goal.decreases-loop-block
decreases-loop-block l = l.size - l.block
