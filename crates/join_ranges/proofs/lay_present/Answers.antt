-- `lay_present` lays the ranges one after another: after k turns, those of the first k sequences. Assumes nothing.
use Rattle.join_ranges.proofs.Laying.{laying_start, laying_asks, laying_on, laying_end}
use native.Mathlib.Omega.{arith}
use Rattle.join_ranges.proofs.lay_present.Goals as goal

pub loop-k-init : goal.loop-k-init
loop-k-init c = laying_start _ _ _ _ _

pub lay_range-requires : goal.lay_range-requires
lay_range-requires c =
    laying_asks c.loop-k.invariant (omega arith) (omega arith) (omega arith) c.requires

pub loop-k-preserved : goal.loop-k-preserved
loop-k-preserved c =
    laying_on c.loop-k.invariant (omega arith) (omega arith) (omega arith) c.lay_range.auto.nodes c.lay_range.ensures

pub shape_of-nodes : goal.shape_of-nodes
shape_of-nodes c = c.loop-k.invariant.long

pub returns : goal.returns
returns c = laying_end c.loop-k.invariant (omega arith)
