-- `fold_step` appends in place where neither encoding has windows, and goes by way of the working store elsewhere.
-- Assumes nothing.
use native.Mathlib.Omega.{arith}
use Rattle.record.proofs.Here.{here_nodes_fit}
use Rattle.fold_step.proofs.Steps.{here_bare, step_asks_append}
use Rattle.fold_step.proofs.fold_step.Goals as goal

pub overflow_add-i : goal.overflow_add-i
overflow_add-i c = omega (arith, here_nodes_fit c.requires.here_p)

pub offset_bounds-nodes-i : goal.offset_bounds-nodes-i
offset_bounds-nodes-i c = omega (arith, here_nodes_fit c.requires.here_p)

pub bounds-nodes-i : goal.bounds-nodes-i
bounds-nodes-i c = omega (arith, here_nodes_fit c.requires.here_p)

pub append_node-requires : goal.append_node-requires
append_node-requires c =
    let a = c.requires in
    step_asks_append a (here_bare a.here_s c.if-out_nodes-eq0.true) (here_bare a.here_p c.if-nodes-i-eq0.true)

pub returns-then-nodes-i-eq0 : goal.returns-then-nodes-i-eq0
returns-then-nodes-i-eq0 c = λ S P s p. c.append_node.ensures S P s (here_bare s c.if-out_nodes-eq0.true) p (here_bare p c.if-nodes-i-eq0.true)
