-- `mark` marks the rows of a sequence: after turn i, those up to row i. Assumes nothing.
use Rattle.lookup_ranges.proofs.Marking.{marks_none, marks_more, marks_all}
use native.Mathlib.Omega.{arith}
use Rattle.lookup_ranges.proofs.mark.Goals as goal

pub loop-i-init : goal.loop-i-init
loop-i-init c =
    let v = c.args in
    marks_none v.rows.start v.id v.out.now

pub loop-i-preserved : goal.loop-i-preserved
loop-i-preserved c =
    let v = c.args in
    marks_more v.rows.start c.loop-i.i v.id v.out.now c.loop-i.out c.loop-i.auto.i c.loop-i.invariant

pub returns : goal.returns
returns c =
    let v = c.args in
    marks_all v.rows c.loop-i.i v.id v.out.now c.loop-i.out (omega arith) c.loop-i.invariant
