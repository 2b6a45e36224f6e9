-- A turn of the loop, from what the invariant says of the forest that is required, gives the bounds, the call of itself
-- one level down, and the walk after it. Assumes nothing.
use Rattle.std.proofs.Common.{◌≡◌, ◌+◌, ◌-◌, arith}
use Rattle.record_extent.proofs.Passing.{turn, passed_all}
use Rattle.record_extent.proofs.+measure.Goals as goal

pub overflow_add-at : goal.overflow_add-at
overflow_add-at t c =
    let u = turn c.requires.1 (c.loop.invariant c.requires.0 c.requires.1) (omega arith) in
    omega (arith, u.next.long)

pub overflow_add-at-in-loop : goal.overflow_add-at-in-loop
overflow_add-at-in-loop t c =
    let u = turn c.requires.1 (c.loop.invariant c.requires.0 c.requires.1) (omega arith) in
    omega (arith, u.next.long)

pub overflow_add-at-in-loop-2 : goal.overflow_add-at-in-loop-2
overflow_add-at-in-loop-2 t c =
    let u = turn c.requires.1 (c.loop.invariant c.requires.0 c.requires.1) (omega arith) in
    omega (arith, u.next.long)

pub offset_bounds-nodes-at : goal.offset_bounds-nodes-at
offset_bounds-nodes-at t c =
    let u = turn c.requires.1 (c.loop.invariant c.requires.0 c.requires.1) (omega arith) in
    omega (arith, u.next.long)

pub bounds-nodes-at : goal.bounds-nodes-at
bounds-nodes-at t c =
    let u = turn c.requires.1 (c.loop.invariant c.requires.0 c.requires.1) (omega arith) in
    omega (arith, u.next.long)

pub measure-below-requires : goal.measure-below-requires
measure-below-requires t c =
    let u = turn c.requires.1 (c.loop.invariant c.requires.0 c.requires.1) (omega arith) in
    (omega (arith, u.next.long, c.decreases), (u.w, u.next.below))

pub offset_bounds-nodes-at-in-loop : goal.offset_bounds-nodes-at-in-loop
offset_bounds-nodes-at-in-loop t c =
    let u = turn c.requires.1 (c.loop.invariant c.requires.0 c.requires.1) (omega arith) in
    omega (arith, u.next.long)

pub bounds-nodes-at-in-loop : goal.bounds-nodes-at-in-loop
bounds-nodes-at-in-loop t c =
    let u = turn c.requires.1 (c.loop.invariant c.requires.0 c.requires.1) (omega arith) in
    omega (arith, u.next.long)

pub with_node-passed-requires : goal.with_node-passed-requires
with_node-passed-requires t c =
    let u = turn c.requires.1 (c.loop.invariant c.requires.0 c.requires.1) (omega arith) in
    rw (u.next.size, c.measure-below.ensures u.w u.next.below) u.few

pub loop-preserved : goal.loop-preserved
loop-preserved t c = λ f h.
    let l = c.loop in
    let u = turn h (l.invariant f h) (omega arith) in
    let one : c.args.tops - l.counter - 1 ≡ c.args.tops - (l.counter + 1) = omega arith in
    rw (c.with_node-passed.ensures, u.next.size, c.measure-below.ensures u.w u.next.below, ← one) u.after

pub returns : goal.returns
returns t c = λ f h.
    let none_left : c.args.tops - c.loop.counter ≡ 0 = omega arith in
    passed_all (rw none_left at (c.loop.invariant f h))
