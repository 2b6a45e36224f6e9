-- `profile_at` counts each node at its level: each turn keeps what is left to read, and at the end nothing is.
-- Assumes nothing.
use mathlib.Core.Path.{refl}
use Prim.Native.Nat.{◌+◌, ◌-◌}
use native.Mathlib.Omega.{arith}
use lib.ListN.{get_or}
use Rattle.join_levels_stored.proofs.Opened.{left_start, left_pop, due, due_next, left_end, kept}
use Rattle.join_levels_stored.proofs.profile_at.Goals as goal

pub loop-depth-init : goal.loop-depth-init
loop-depth-init c = kept c.requires.stands (λ E s. left_start s)

pub loop-depth-preserved-then-left-eq0 : goal.loop-depth-preserved-then-left-eq0
loop-depth-preserved-then-left-eq0 c = kept c.requires.stands (λ E s. left_pop (c.loop-depth.depth - 1) (c.loop-depth.invariant.left E s) (omega arith) (omega (arith, c.if-left-eq0.true)))

pub loop-depth-preserved : goal.loop-depth-preserved
loop-depth-preserved c = kept c.requires.stands (λ E s.
    let l = c.loop-depth in
    rw c.max-levels.ensures (due_next l.depth (get_or l.pending (l.depth - 1) 0 - 1) (get_or c.args.nodes.now (l.i + 1) 0) (get_or c.args.nodes.now l.i 0) (due (l.depth - 1) (l.invariant.left E s) (omega arith) (omega (arith, c.if-left-eq0.false))) (omega arith) refl refl refl))

pub returns : goal.returns
returns c = λ E s. (left_end (c.loop-depth.invariant.left E s) (omega arith)).1
