-- `write_padded` writes one node after another, each with its rows. Assumes nothing.
use mathlib.Core.Path.{◌≡◌, refl}
use Prim.Native.Nat.{◌+◌, ◌*◌}
use Rattle.record.specs.Flat.{node_width}
use native.Mathlib.Omega.{arith}
use Rattle.pad_write.proofs.Growing.{growing_start, growing_kept_rows, growing_turn, growing_on, growing_end}
use Rattle.pad_write.proofs.write_padded.Goals as goal

-- What is written and what is to come, of the encodings that are stored, is the invariant at them; a turn has room by
-- `growing_turn`.

pub loop-n-init : goal.loop-n-init
loop-n-init c = λ f h. growing_start _ _ _ _ _ h

pub overflow_sub-new : goal.overflow_sub-new
overflow_sub-new c = omega (arith, c.max-count.ensures)

pub write_node-requires : goal.write_node-requires
write_node-requires c =
    let p = c.requires in
    let grown = c.loop-n.invariant p.f p.stores in
    let turn = growing_turn _ _ _ grown (omega (arith, c.loop-n-test.true)) p.nodes_fit p.few_rows p.rows_fit in
    rw c.max-count.ensures turn.asks

pub write_rows-requires : goal.write_rows-requires
write_rows-requires c =
    let p = c.requires in
    let grown = c.loop-n.invariant p.f p.stores in
    let turn = growing_turn _ _ _ grown (omega (arith, c.loop-n-test.true)) p.nodes_fit p.few_rows p.rows_fit in
    let k = growing_kept_rows _ _ _ grown in
    let e = c.max-count.ensures in
    (turn.rows_stand, omega (arith, turn.rows_fit))

pub overflow_mul-from : goal.overflow_mul-from
overflow_mul-from c =
    let p = c.requires in
    let grown = c.loop-n.invariant p.f p.stores in
    let turn = growing_turn _ _ _ grown (omega (arith, c.loop-n-test.true)) p.nodes_fit p.few_rows p.rows_fit in
    omega (arith, turn.rows_stand)

pub overflow_add-from : goal.overflow_add-from
overflow_add-from c =
    let p = c.requires in
    let grown = c.loop-n.invariant p.f p.stores in
    let turn = growing_turn _ _ _ grown (omega (arith, c.loop-n-test.true)) p.nodes_fit p.few_rows p.rows_fit in
    omega (arith, turn.rows_stand)

pub overflow_mul-to : goal.overflow_mul-to
overflow_mul-to c =
    let p = c.requires in
    let grown = c.loop-n.invariant p.f p.stores in
    let turn = growing_turn _ _ _ grown (omega (arith, c.loop-n-test.true)) p.nodes_fit p.few_rows p.rows_fit in
    omega (arith, c.max-count.ensures, turn.rows_fit)

pub overflow_add-to : goal.overflow_add-to
overflow_add-to c =
    let p = c.requires in
    let grown = c.loop-n.invariant p.f p.stores in
    let turn = growing_turn _ _ _ grown (omega (arith, c.loop-n-test.true)) p.nodes_fit p.few_rows p.rows_fit in
    omega (arith, c.max-count.ensures, turn.rows_fit)

pub loop-n-preserved : goal.loop-n-preserved
loop-n-preserved c = λ f h.
    let on : c.loop-n.n * node_width + node_width ≡ (c.loop-n.n + 1) * node_width = omega arith in
    rw (← on) (growing_on _ _ _ (c.loop-n.invariant f h) (omega (arith, c.loop-n-test.true)) refl c.max-count.ensures refl c.write_node.ensures c.write_rows.ensures)

pub returns : goal.returns
returns c = λ f h. growing_end _ _ _ (c.loop-n.invariant f h) (omega (arith, c.loop-n-test.false))
