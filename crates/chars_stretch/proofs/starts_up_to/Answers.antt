-- `starts_up_to` meets its contract, which is the loop's invariant too. Assumes nothing.
use Rattle.chars_stretch.proofs.Stretches.{none_yet, one_part_more}
use native.Mathlib.Omega.{arith}
use Rattle.chars_stretch.proofs.starts_up_to.Goals as goal

pub loop-init : goal.loop-init
loop-init c = none_yet _ _ c.requires

pub loop-preserved : goal.loop-preserved
loop-preserved c =
    one_part_more c.loop.invariant _ _ (omega arith) (omega (arith, c.if-text-to-lt-PART.false)) c.count_block.ensures (omega (arith, c.if-count_block-lt-PART.false))
