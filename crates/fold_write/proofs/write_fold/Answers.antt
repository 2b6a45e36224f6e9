-- `write_fold` writes the empty encoding, folds what comes next each turn, and zeroes the working store. Assumes nothing.
use native.Mathlib.Omega.{arith}
use Rattle.fold_step.proofs.Folding.{empty_put}
use Rattle.fold_each.proofs.Going.{going_start, going_end}
use Rattle.fold_write.proofs.Onward.{so_far, asks_next, going_on}
use Rattle.fold_write.proofs.write_fold.Goals as goal

-- where the loop begins, the empty encoding is written
pub loop-at-init : goal.loop-at-init
loop-at-init c = going_start c.requires (empty_put c.start.ensures)

pub fold_next-at-requires : goal.fold_next-at-requires
fold_next-at-requires c =
    let s = c.loop-at.invariant in
    (so_far s, s.left, asks_next s c.loop-at-test.true)

-- what was folded in a turn
pub loop-at-smaller : goal.loop-at-smaller
loop-at-smaller c =
    let s = c.loop-at.invariant in
    let t = c.fold_next-at.ensures (so_far s) s.left (asks_next s c.loop-at-test.true) in
    omega (arith, t.on, t.ends, c.loop-at-test.true)

pub loop-at-preserved : goal.loop-at-preserved
loop-at-preserved c =
    let s = c.loop-at.invariant in
    going_on s (c.fold_next-at.ensures (so_far s) s.left (asks_next s c.loop-at-test.true)) c.fold_next-at.auto.working_nodes c.fold_next-at.auto.working_rows

pub returns-clause-writes_fold : goal.returns-clause-writes_fold
returns-clause-writes_fold c = going_end c.loop-at.invariant c.loop-at-test.false (empty_put c.start.ensures)
