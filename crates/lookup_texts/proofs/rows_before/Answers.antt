-- `rows_before` adds up the row counts of the nodes before one. A u32 for each of fewer than 2 ^ 32 nodes fits.
-- Assumes nothing.
use mathlib.Core.Path.{◌≡◌, sym, ap, ◌∙◌}
use Prim.Native.Nat.{◌*◌}
use native.Mathlib.Omega.{arith}
use Rattle.record.specs.Flat.{node_width}
use Rattle.lookup_texts.specs.Promises.{rows_before}
use Rattle.lookup_texts.proofs.NodeSpan.{rows_before_none, rows_before_more}
use Rattle.lookup_texts.proofs.rows_before.Goals as goal

pub loop-i-init : goal.loop-i-init
loop-i-init c = (sym (rows_before_none _), omega arith)

pub loop-i-preserved : goal.loop-i-preserved
loop-i-preserved c =
    let more = rows_before_more c.args.nodes.now c.loop-i.i in
    (omega arith, omega (arith, c.type_inv.nodes (c.loop-i.i * node_width)))

pub returns : goal.returns
returns c =
    let v = c.args in
    let e : c.loop-i.i ≡ v.node = omega arith in
    c.loop-i.invariant.0 ∙ ap (rows_before v.nodes.now) e
