-- `span_of` passes the rows: after i turns it holds the span of the first i of them. Assumes nothing.
use mathlib.Core.Path.{◌≡◌, ap, ◌∙◌}
use Prim.Native.Nat.{ℕ}
use native.Mathlib.Omega.{arith}
use Rattle.lookup_spans.specs.Spans.{span_of}
use Rattle.lookup_spans.specs.Seen.{widest_of}
use Rattle.lookup_spans.proofs.Passing.{rows_from, passed_none, passed_more, told}
use Rattle.lookup_spans.proofs.span_of.Goals as goal

pub loop-i-init : goal.loop-i-init
loop-i-init c = let v = c.args in passed_none v.rows.now v.first

pub loop-i-preserved : goal.loop-i-preserved
loop-i-preserved c =
    let rows = c.args.rows.now in
    let first = c.args.first in
    c.widened-seen.ensures (span_of (rows_from rows first c.loop-i.i)) c.loop-i.invariant ∙ ap widest_of (passed_more rows first c.loop-i.i)

pub returns : goal.returns
returns c =
    let rows = rows_from c.args.rows.now c.args.first in
    let e : c.loop-i.i ≡ c.args.count = omega arith in
    c.then_some.ensures ∙ told (span_of (rows c.args.count)) (c.loop-i.invariant ∙ ap (λ (n : ℕ). widest_of (span_of (rows n))) e)
