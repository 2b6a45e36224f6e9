-- The span of a node (document 01, module 2, as request 04 of document 02 changes it).
-- Assumes nothing: these are definitions.
use Rattle.std.specs.Prelude.{ℕ, Option as Answer, Some, None, Result, Ok, Err}
use Rattle.std.proofs.Math.Option.{Option, none as nothing, some}
use Rattle.record.specs.Read.{Reading, of_any}
use Rattle.record.specs.Walk.{all_encodings}
use Rattle.record.specs.declared.Refusal.{Refusal}
use Rattle.record.specs.declared.Refusal.TheVariants.{MalformedRecord}
use Rattle.lookup_spans.specs.Spans.{Span, span_of}
use Rattle.lookup_texts.specs.Numbered.{numbered}
use Rattle.lookup_texts.specs.declared.Offsets.{Offsets}

-- a span, or none, as an answer
abbrev pub span_told : Option Span → Answer Offsets
span_told nothing = None
span_told (some s) = Some (record { start = record { 0 = s.start }; end = record { 0 = s.end } })

-- "Lookups, span: 1. None is a normal result."; none also "past the last node", numbered "through the whole batch"
unfoldable pub span_answer : Reading → ℕ → Result (Answer Offsets) Refusal
span_answer batch node = of_any (Err MalformedRecord) (λ f. Ok (numbered None (λ E. span_told (span_of E.rows)) (all_encodings f) node)) batch
