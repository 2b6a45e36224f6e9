-- `steps_fit` tells whether each step fits: the loop joins one encoding more, and the first that does not fit decides.
-- Assumes nothing.
use native.Mathlib.Omega.{arith}
use mathlib.Core.List.{[], ◌∷◌}
use Rattle.record.specs.Tree.{forest}
use Rattle.record.specs.Walk.{all_rows}
use Rattle.join_offsets.proofs.Folding.{folded_start, folded_small, next, next_stands, next_nodes, next_rows, next_there, next_offset, folded_stop, folded_more, folded_end}
use Rattle.join_offsets.proofs.steps_fit.Goals as goal

pub loop-i-init : goal.loop-i-init
loop-i-init c = λ f h. folded_start h

pub measure-size-requires : goal.measure-size-requires
measure-size-requires c = let n = next (c.loop-i.invariant c.requires.0 c.requires.1) c.loop-i-test.true in (forest (n.E ∷ []), next_stands n)

pub largest_offset-offset-requires : goal.largest_offset-offset-requires
largest_offset-offset-requires c =
    let n = next (c.loop-i.invariant c.requires.0 c.requires.1) c.loop-i-test.true in
    (all_rows (forest (n.E ∷ [])), next_rows n (c.measure-size.ensures (forest (n.E ∷ [])) (next_stands n)))

pub overflow_add-base : goal.overflow_add-base
overflow_add-base c = omega (arith, folded_small (c.loop-i.invariant c.requires.0 c.requires.1))

pub returns-then-base-offset-gt-MOST_OFFSET : goal.returns-then-base-offset-gt-MOST_OFFSET
returns-then-base-offset-gt-MOST_OFFSET c = λ f h.
    let n = next (c.loop-i.invariant f h) c.loop-i-test.true in
    folded_stop n (omega (arith, next_offset n (c.measure-size.ensures (forest (n.E ∷ [])) (next_stands n)) c.largest_offset-offset.ensures))

pub largest_base-requires : goal.largest_base-requires
largest_base-requires c =
    let n = next (c.loop-i.invariant c.requires.0 c.requires.1) c.loop-i-test.true in
    (forest (n.E ∷ []), next_nodes n (c.measure-size.ensures (forest (n.E ∷ [])) (next_stands n)))

pub overflow_mul-i : goal.overflow_mul-i
overflow_mul-i c =
    let n = next (c.loop-i.invariant c.requires.0 c.requires.1) c.loop-i-test.true in
    omega (arith, (next_there n (c.measure-size.ensures (forest (n.E ∷ [])) (next_stands n))).1)

pub overflow_add-i : goal.overflow_add-i
overflow_add-i c =
    let n = next (c.loop-i.invariant c.requires.0 c.requires.1) c.loop-i-test.true in
    omega (arith, (next_there n (c.measure-size.ensures (forest (n.E ∷ [])) (next_stands n))).1)

pub overflow_mul-j : goal.overflow_mul-j
overflow_mul-j c =
    let n = next (c.loop-i.invariant c.requires.0 c.requires.1) c.loop-i-test.true in
    omega (arith, (next_there n (c.measure-size.ensures (forest (n.E ∷ [])) (next_stands n))).2)

pub overflow_add-j : goal.overflow_add-j
overflow_add-j c =
    let n = next (c.loop-i.invariant c.requires.0 c.requires.1) c.loop-i-test.true in
    omega (arith, (next_there n (c.measure-size.ensures (forest (n.E ∷ [])) (next_stands n))).2)

pub loop-i-smaller : goal.loop-i-smaller
loop-i-smaller c =
    let n = next (c.loop-i.invariant c.requires.0 c.requires.1) c.loop-i-test.true in
    let t = next_there n (c.measure-size.ensures (forest (n.E ∷ [])) (next_stands n)) in
    omega (arith, t.0, t.1)

pub loop-i-preserved : goal.loop-i-preserved
loop-i-preserved c = λ f h.
    let n = next (c.loop-i.invariant f h) c.loop-i-test.true in
    let e = c.measure-size.ensures (forest (n.E ∷ [])) (next_stands n) in
    folded_more n e (c.largest_base.ensures (forest (n.E ∷ [])) (next_nodes n e)) (omega (arith, c.if-base-offset-gt-MOST_OFFSET.false, next_offset n e c.largest_offset-offset.ensures))

pub returns : goal.returns
returns c = λ f h. folded_end (c.loop-i.invariant f h) c.loop-i-test.false
