-- `check_stretches` meets its contract. The loop's invariant, `Stretching`: the rows of the stretches passed, and that no range reaches over
-- the row that is next. Assumes nothing.
use native.Mathlib.Omega.{arith}
use Rattle.profile_node.proofs.Stretching.{stretching_start, stretching_more, stretching_end, stretched_here, stretch_inside, marks_small, rows_inside, checked_known, passed}
use Rattle.profile_node.proofs.check_stretches.Goals as goal

pub bounds-nodes-i : goal.bounds-nodes-i
bounds-nodes-i c = omega (arith, c.requires.at.fits)

pub loop-row-init : goal.loop-row-init
loop-row-init c = (omega arith, c.requires.known, λ N before at e d. stretching_start N before _ _ e d)

pub stretch_at-stretch-requires : goal.stretch_at-stretch-requires
stretch_at-stretch-requires c = let t = c.requires in (t.at.fits, c.loop-row-test.true, marks_small t.at)

pub check_rows-found-requires : goal.check_rows-found-requires
check_rows-found-requires c =
    let t = c.requires in
    (omega (arith, c.stretch_at-stretch.ensures.further), rows_inside t.at c.stretch_at-stretch.ensures, c.loop-row.invariant.1)

pub loop-row-smaller : goal.loop-row-smaller
loop-row-smaller c = omega (arith, c.stretch_at-stretch.ensures.further, c.loop-row-test.true)

pub loop-row-preserved : goal.loop-row-preserved
loop-row-preserved c =
    let g = c.stretch_at-stretch in
    let l = c.loop-row in
    let t = c.requires in
    let inside = c.loop-row-test.true in (
      stretch_inside t.at g.ensures,
      checked_known t.at g.ensures _ _ c.check_rows-found.result l.invariant.1 c.check_rows-found.ensures,
      λ N before at e d.
          let k = l.invariant.2 N before at e d in
          stretching_more k g.result c.check_rows-found.result (omega (arith, at.size, inside)) (stretched_here at g.ensures)
          (c.check_rows-found.ensures N (passed N before _ _) at.own (omega (arith, at.size, stretch_inside at g.ensures)) k.found_is),
    )

pub returns : goal.returns
returns c = λ N before at e d. stretching_end (c.loop-row.invariant.2 N before at e d) (omega (arith, at.size, c.loop-row.invariant.0, c.loop-row-test.false))
