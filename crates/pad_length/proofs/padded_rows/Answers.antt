-- `padded_rows` adds up the rows node by node. Few nodes of 32 bits each fit. Assumes nothing.
use mathlib.Core.Path.{◌≡◌}
use Prim.Native.Nat.{ℕ, ◌+◌, ◌*◌}
use native.Mathlib.Omega.{arith}
use Rattle.record.specs.Flat.{node_width}
use Rattle.record.proofs.Passing.{nodes_few}
use Rattle.pad_length.proofs.Summing.{summing_start, summing_turn, summing_end}
use Rattle.pad_length.proofs.padded_rows.Goals as goal

-- the next node stands a node's width on
next : (n : ℕ) → n * node_width + node_width ≡ (n + 1) * node_width
next n = omega arith

pub loop-n-init : goal.loop-n-init
loop-n-init c = (omega arith, λ f h. summing_start _ h)

pub overflow_add-total : goal.overflow_add-total
overflow_add-total c = omega (arith, c.type_inv.nodes (c.loop-n.n * 26), nodes_few c.requires.1, c.max.ensures, c.loop-n.invariant.0, c.loop-n-test.true)

pub loop-n-preserved : goal.loop-n-preserved
loop-n-preserved c = (
  omega (arith, c.type_inv.nodes (c.loop-n.n * 26), c.max.ensures, c.loop-n.invariant.0),
  λ f h. rw (← next c.loop-n.n, c.max.ensures) (summing_turn (c.loop-n.invariant.1 f h) (omega (arith, c.loop-n-test.true))),
)

pub returns : goal.returns
returns c f h = summing_end (c.loop-n.invariant.1 f h) (omega (arith, c.loop-n-test.false))
