-- `set_types` sets the type of each row: after i turns, of the first i. Assumes nothing.
use lib.ListN.{length-set}
use Rattle.join_rows.proofs.Turning.{turning_start, turning_on, turning_end, typed_there}
use native.Mathlib.Omega.{arith}
use Rattle.join_rows.proofs.set_types.Goals as goal

pub loop-i-init : goal.loop-i-init
loop-i-init c = turning_start _ _ _ _

pub loop-i-preserved : goal.loop-i-preserved
loop-i-preserved c =
    let turning = c.loop-i.invariant in
    turning_on turning (omega arith) (simp length-set) (typed_there _ _ _)

pub shape_of-rows : goal.shape_of-rows
shape_of-rows c = c.loop-i.invariant.long

pub returns : goal.returns
returns c = turning_end c.loop-i.invariant (omega arith)
