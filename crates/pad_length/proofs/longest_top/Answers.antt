-- `longest_top` goes through the nodes and counts the windows still to come, so that it knows which node is at the top.
-- Assumes nothing.
use mathlib.Core.Path.{◌≡◌}
use Prim.Native.Nat.{ℕ, ◌+◌, ◌*◌}
use native.Mathlib.Nat.{pos_of_ne-zero}
use native.Mathlib.Omega.{arith}
use Rattle.record.specs.Flat.{node_width}
use Rattle.record.proofs.Passing.{nodes_few}
use Rattle.pad_length.proofs.Searching.{searching_start, searching_pending, searching_top, searching_window, searching_end}
use Rattle.pad_length.proofs.longest_top.Goals as goal
use Rattle.pad_length.proofs.longest_top.Goals.{then-pending-eq0, else-pending-eq0}

-- the next node stands a node's width on
next : (n : ℕ) → n * node_width + node_width ≡ (n + 1) * node_width
next n = omega arith

pub loop-n-init : goal.loop-n-init
loop-n-init c = λ f h. searching_start h

pub overflow_add-pending : goal.overflow_add-pending
overflow_add-pending c =
    let p = c.requires in
    omega (arith, searching_pending (searching_window (c.loop-n.invariant p.0 p.1) (omega (arith, c.loop-n-test.true)) (pos_of_ne-zero c.if-pending-eq0.false)) (nodes_few p.1))

pub loop-n-preserved : goal.loop-n-preserved
loop-n-preserved c = λ f h.
    let there = c.loop-n.invariant f h in
    elim c.if-pending-eq0.branch [
      | then-pending-eq0 w ↦ rw (← next c.loop-n.n, w.most-is, w.pending-is, w.max-most.ensures) (searching_top there (omega (arith, c.loop-n-test.true)) w.if-pending-eq0.true)
      | else-pending-eq0 w ↦ rw (← next c.loop-n.n, w.most-is, w.pending-is) (searching_window there (omega (arith, c.loop-n-test.true)) (pos_of_ne-zero w.if-pending-eq0.false))
    ]

pub returns : goal.returns
returns c f h = searching_end (c.loop-n.invariant f h) (omega (arith, c.loop-n-test.false))
