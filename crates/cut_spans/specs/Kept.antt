-- The statement of request 04 on cuts, of an encoding and what a cut makes of it (`truncated` of truncate_write/specs/Truncated).
-- It holds where `Cuts` of cut_plan/specs/Cut does: rows are cut off, max is above 0 and the stride below max.
-- Assumes nothing: these are definitions.
use Rattle.std.specs.Prelude.{◌≡◌, List, [], ◌∷◌, map}
use Rattle.std.proofs.Math.Option.{Option}
use Rattle.record.specs.Tree.{Encoding, forest, windows}
use Rattle.record.specs.Walk.{all_encodings}
use Rattle.lookup_spans.specs.Spans.{Span, among, span_of}

-- of each its own
abbrev pub spans_of : List Encoding → List (Option Span)
spans_of Es = map (λ (E : Encoding). span_of E.rows) Es

pub record SpanKept (before after : Encoding) : Type 0 where
  -- "the least start and the greatest end among the spans of the kept rows and windows are the span before the cut, and
  -- none if that was none"
  pub kept : among (spans_of (after ∷ windows after)) ≡ span_of before.rows
  -- and so of all nodes that are there then
  pub kept_in_all : among (spans_of (all_encodings (forest (after ∷ [])))) ≡ span_of before.rows
