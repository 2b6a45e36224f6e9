-- `run_from` goes from node to node while they have no windows. Assumes nothing.
use mathlib.Core.Path.{◌≡◌, refl, subst}
use Prim.Native.Nat.{ℕ, ◌-◌, ◌/◌}
use lib.ListN.{length}
use native.Mathlib.Omega.{arith}
use Rattle.record.proofs.Passing.{nodes_left}
use Rattle.fold_run.specs.Promises.{BeginsWith}
use Rattle.fold_run.proofs.Runs.{sized, begins_none, begins_few, begins_more}
use Rattle.fold_run.proofs.run_from.Goals as goal

pub overflow_sub-left : goal.overflow_sub-left
overflow_sub-left c = omega (arith, nodes_left c.requires.coming)

pub loop-count-init : goal.loop-count-init
loop-count-init c = λ f h. begins_none h

pub overflow_add-rows : goal.overflow_add-rows
overflow_add-rows c = let b = begins_more (c.loop-count.invariant c.requires.f c.requires.coming) refl (omega (arith, c.loop-count-test.true)) c.if-nodes-at-ne0.false in omega (arith, begins_few b, c.requires.few_rows)

pub loop-count-preserved : goal.loop-count-preserved
loop-count-preserved c = λ f h. begins_more (c.loop-count.invariant f h) refl (omega (arith, c.loop-count-test.true)) c.if-nodes-at-ne0.false

pub returns : goal.returns
returns c f h =
    let ended : c.loop-count.count ≡ (length c.args.nodes.now - c.args.i) / 26 = omega (arith, c.loop-count-test.false, c.loop-count.auto.count-end) in
    subst (λ (n : ℕ). BeginsWith c.args.nodes.now c.args.i f (sized n c.loop-count.rows)) ended (c.loop-count.invariant f h)
