-- `span_of` passes the rows: after i turns it holds the span of the first i of them. Assumes nothing.
use mathlib.Core.Path.{◌≡◌}
use Rattle.lookup_spans.specs.Spans.{span_of}
use Rattle.lookup_spans.specs.Seen.{widest_of}
use Rattle.lookup_spans.proofs.Passing.{rows_from}
use Rattle.lookup_spans.proofs.span_of.Given as goal

abbrev pub invariant-loop-i : goal.invariant-loop-i
invariant-loop-i l = l.seen ≡ widest_of (span_of (rows_from l.rows l.first l.i))
