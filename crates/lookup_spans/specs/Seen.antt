-- How a span is handed on by the code.
-- Assumes nothing: these are definitions.
use Rattle.std.specs.Prelude.{true, false, Option as Answer, Some, None}
use Rattle.std.proofs.Math.Option.{Option, none as nothing, some}
use Rattle.lookup_spans.specs.Spans.{Span}
use Rattle.lookup_spans.specs.declared.Widest.{Widest}
use Rattle.lookup_spans.specs.declared.Seen.{Seen}

-- its start and its end, if there is one
abbrev pub seen_of : Option Span → Answer Seen
seen_of nothing = None
seen_of (some s) = Some (record { start = s.start; end = s.end })

-- what the rows passed have whose span this is; of none at all, no start is above the start and no end below the end
abbrev pub widest_of : Option Span → Widest
widest_of nothing = record { found = false; start = 4294967295; end = 0 }
widest_of (some s) = record { found = true; start = s.start; end = s.end }
