-- The sentence of request 04 as it is spoken, which `span_of` computes: `span_least`, `span_only`, `span_none` and `none_span` of proofs/Least.
-- Assumes nothing: these are definitions.
use Rattle.std.specs.Prelude.{◌≡◌, ◌⊎◌, ◌≤◌, List, [], ◌∷◌}
use Rattle.lists.specs.Lists.{All}
use Rattle.record.specs.Tree.{Row}
use Rattle.lookup_spans.specs.Spans.{Span}

-- some row is such a one
abbrev pub SomeRow : (Row → Type 0) → List Row → Type 0
SomeRow M [] = ⊥
SomeRow M (r ∷ rs) = M r ⊎ SomeRow M rs

-- "rows whose special mask is 0"
abbrev pub Plain : Row → Type 0
Plain r = r.special ≡ 0

-- "the least offset start and the greatest offset end over rows whose special mask is 0"
pub record Least (R : List Row) (s : Span) : Type 0 where
  pub starts_within : All (λ r. Plain r → s.start ≤ r.offset_start) R
  pub ends_within : All (λ r. Plain r → r.offset_end ≤ s.end) R
  pub start_there : SomeRow (λ r. Plain r × (r.offset_start ≡ s.start)) R
  pub end_there : SomeRow (λ r. Plain r × (r.offset_end ≡ s.end)) R

-- "there is no such row"
abbrev pub NonePlain : List Row → Type 0
NonePlain R = All (λ r. Plain r → ⊥) R
