-- `grain_of` meets its contract. The loop's invariant, `Doubling`: the block is a power of two. Assumes nothing.
use Rattle.chars_places.proofs.Grains.{doubling_few, doubling_some, doubling_more, doubling_end}
use native.Mathlib.Omega.{arith}
use Rattle.chars_places.proofs.grain_of.Goals as goal

pub overflow_add-shift : goal.overflow_add-shift
overflow_add-shift c = omega (arith, doubling_few c.loop-block.invariant)

pub loop-block-smaller : goal.loop-block-smaller
loop-block-smaller c = omega (arith, doubling_some c.loop-block.invariant)

pub loop-block-preserved : goal.loop-block-preserved
loop-block-preserved c = doubling_more c.loop-block.invariant (omega arith)

pub returns : goal.returns
returns c = doubling_end c.loop-block.invariant _ c.loop-block-test.false
