-- `fold_each` writes the empty encoding and folds one encoding more each turn. Assumes nothing.
use mathlib.Core.Path.{◌∙◌}
use mathlib.Core.List.{[], ◌∷◌}
use native.Mathlib.Omega.{arith}
use Rattle.record.specs.Tree.{listed, forest}
use Rattle.fold_step.proofs.Folding.{empty_put, start_asks, folding_lengths}
use Rattle.fold_each.proofs.Going.{going_start, going_next, next_asks, next_stands, next_size, going_more, going_end}
use Rattle.fold_each.proofs.fold_each.Goals as goal

pub start-requires : goal.start-requires
start-requires c = let a = c.requires in start_asks _ (listed a.f) a.room

-- where the loop begins, the empty encoding is written
pub loop-i-init : goal.loop-i-init
loop-i-init c = going_start c.requires (empty_put c.start.ensures)

-- in the loop an encoding is next
pub measure-own-requires : goal.measure-own-requires
measure-own-requires c =
    let n = going_next c.loop-i.invariant c.loop-i-test.true in
    (forest (n.P ∷ []), next_stands n)

pub fold_step-requires : goal.fold_step-requires
fold_step-requires c = next_asks (going_next c.loop-i.invariant c.loop-i-test.true)

-- which was measured
pub overflow_mul-i : goal.overflow_mul-i
overflow_mul-i c =
    let n = going_next c.loop-i.invariant c.loop-i-test.true in
    omega (arith, (next_size n (c.measure-own.ensures _ (next_stands n))).1)

pub overflow_add-i : goal.overflow_add-i
overflow_add-i c =
    let n = going_next c.loop-i.invariant c.loop-i-test.true in
    omega (arith, (next_size n (c.measure-own.ensures _ (next_stands n))).1)

pub overflow_mul-j : goal.overflow_mul-j
overflow_mul-j c =
    let n = going_next c.loop-i.invariant c.loop-i-test.true in
    omega (arith, (next_size n (c.measure-own.ensures _ (next_stands n))).2)

pub overflow_add-j : goal.overflow_add-j
overflow_add-j c =
    let n = going_next c.loop-i.invariant c.loop-i-test.true in
    omega (arith, (next_size n (c.measure-own.ensures _ (next_stands n))).2)

pub loop-i-smaller : goal.loop-i-smaller
loop-i-smaller c =
    let n = going_next c.loop-i.invariant c.loop-i-test.true in
    let z = next_size n (c.measure-own.ensures _ (next_stands n)) in
    omega (arith, z.0, z.1)

pub loop-i-preserved : goal.loop-i-preserved
loop-i-preserved c =
    let n = going_next c.loop-i.invariant c.loop-i-test.true in
    going_more n (c.measure-own.ensures _ (next_stands n)) c.fold_step.ensures c.fold_step.auto.working_nodes c.fold_step.auto.working_rows

pub shape_of-out_nodes : goal.shape_of-out_nodes
shape_of-out_nodes c = (folding_lengths c.loop-i.invariant.folding).0 ∙ c.start.auto.out_nodes

pub shape_of-out_rows : goal.shape_of-out_rows
shape_of-out_rows c = (folding_lengths c.loop-i.invariant.folding).1

pub shape_of-working_nodes : goal.shape_of-working_nodes
shape_of-working_nodes c = c.loop-i.invariant.folding.used_nodes

pub shape_of-working_rows : goal.shape_of-working_rows
shape_of-working_rows c = c.loop-i.invariant.folding.used_rows

pub returns : goal.returns
returns c = going_end c.loop-i.invariant c.loop-i-test.false (empty_put c.start.ensures)
