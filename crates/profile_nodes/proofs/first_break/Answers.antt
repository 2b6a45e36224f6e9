-- `first_break` meets its contract. The loop's invariant, `Walking`: what the nodes passed break, and that with it what is to come decides.
-- Assumes nothing.
use mathlib.Core.Path.{◌≡◌, subst}
use Prim.Native.Nat.{ℕ, ◌+◌, ◌*◌, ◌<◌}
use lib.ListN.{get_or}
use native.Mathlib.Omega.{arith}
use Rattle.record.specs.Flat.{row_width, node_width}
use Rattle.profile_nodes.specs.Promises.{left_after}
use Rattle.profile_nodes.proofs.Walking.{Walking, walking_start, walking_end, walking_there, walking_stops, walking_next, walking_fits, walking_few}
use Rattle.profile_nodes.proofs.first_break.Goals as goal
use Rattle.profile_nodes.proofs.first_break.Goals.{then-left-gt0+else-windows-gt0, else-left-gt0}

pub loop-n-init : goal.loop-n-init
loop-n-init c = walking_start c.requires c.none-best.result c.none-best.ensures

pub overflow_cast-node : goal.overflow_cast-node
overflow_cast-node c = omega (arith, walking_few c.loop-n.invariant (omega arith))

pub returns-then-windows-gt0 : goal.returns-then-windows-gt0
returns-then-windows-gt0 c = walking_stops c.loop-n.invariant (omega arith) c.if-left-gt0.true c.if-windows-gt0.true

pub check_node-best-requires : goal.check_node-best-requires
check_node-best-requires c = walking_there c.loop-n.invariant (omega arith)

pub overflow_add-j : goal.overflow_add-j
overflow_add-j c = omega (arith, walking_fits c.loop-n.invariant (omega arith))

pub loop-n-preserved : goal.loop-n-preserved
loop-n-preserved c =
    let l = c.loop-n in
    let nodes = c.args.nodes.now in
    -- a node that is still to come as a window has none itself
    let plain : 0 < c.loop-n.left → get_or c.args.nodes.now (c.loop-n.n * node_width + 1) 0 ≡ 0 =
    elim c.if-left-gt0.branch [
      | then-left-gt0+else-windows-gt0 w ↦ λ h. omega (arith, w.if-windows-gt0.false)
      | else-left-gt0 w ↦ λ h. absurd (omega (arith, w.if-left-gt0.false))
    ] in
    let next = walking_next c.loop-n.invariant (omega arith) plain c.check_node-best.result c.check_node-best.ensures in
    let on : l.n * node_width + node_width ≡ (l.n + 1) * node_width = omega arith in
    rw c.left_after-left.ensures
    (subst
    (λ (i : ℕ). Walking nodes c.args.rows.now i (l.j + get_or nodes (l.n * node_width) 0 * row_width) (l.n + 1) (left_after l.left (get_or nodes (l.n * node_width + 1) 0)) c.check_node-best.result)
    on
    next)

pub returns : goal.returns
returns c = walking_end c.loop-n.invariant (omega arith)
