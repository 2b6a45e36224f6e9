-- The span of some rows (document 02, request 04).
-- Assumes nothing: these are definitions.
use Rattle.std.specs.Prelude.{ℕ, min, max, cond, List, [], ◌∷◌, map, eqb}
use Rattle.std.proofs.Math.Option.{Option, none as nothing, some}
use Rattle.record.specs.Tree.{Row}

-- An offset start and an offset end. The start may be the greater.
pub record Span : Type 0 where
  pub start : ℕ
  pub end : ℕ

abbrev pub span_from : ℕ → ℕ → Span
span_from s e = record { start = s; end = e }

-- the least start and the greatest end of two, of which either may be none
abbrev pub joint : Option Span → Option Span → Option Span
joint nothing b = b
joint (some a) nothing = some a
joint (some a) (some b) = some (span_from (min a.start b.start) (max a.end b.end))

-- "the least start and the greatest end among the spans", and none if all are none
abbrev pub among : List (Option Span) → Option Span
among [] = nothing
among (a ∷ spans) = joint a (among spans)

-- a row counts by its offsets if its special mask is 0, and else it does not
abbrev pub row_span : ℕ → ℕ → ℕ → Option Span
row_span mask start end = cond (eqb mask 0) (some (span_from start end)) nothing

-- "A node's span is now the least offset start and the greatest offset end over rows whose special mask is 0, and none if
-- there is no such row."
unfoldable pub span_of : List Row → Option Span
span_of rows = among (map (λ (r : Row). row_span r.special r.offset_start r.offset_end) rows)
