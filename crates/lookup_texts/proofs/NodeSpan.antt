-- The span of a node: what is answered, by the numbers that are stored; and what a user leans on.
-- Assumes nothing.
use mathlib.Core.Path.{◌≡◌, refl, sym, ap, ap₂, ◌∙◌}
use mathlib.Core.Option.{Option, none as nothing, some}
use Prim.Native.Nat.{ℕ, ◌+◌, ◌*◌, ◌≤◌, ◌<◌}
use native.Mathlib.Numerals.{add-one}
use native.Mathlib.Omega.{arith}
use mathlib.Core.List.{List}
use lib.ListN.{length, get_or, drop}
use Rattle.record.specs.Tree.{Row, Forest, Encoding, empty}
use Rattle.record.specs.Flat.{row_width, node_width, row_at}
use Rattle.record.specs.WellFormed.{Stores}
use Rattle.record.specs.Standing.{RowsAt}
use Rattle.record.specs.Read.{Reading, holds, read, several, of_any}
use Rattle.record.specs.Walk.{all_encodings}
use Rattle.record.specs.declared.Refusal.TheVariants.{MalformedRecord}
use Rattle.record.proofs.Flat.{row_stored, several_back}
use Rattle.record_check.specs.Answers.{shape_of}
use Rattle.record.specs.declared.Refusal.{Refusal}
use Rattle.std.specs.Prelude.{Option as Answer, Some, None, Ok, Err}
use Rattle.record_check.proofs.Checked.{none_of, any_of}
use Rattle.lookup_spans.specs.Spans.{Span, span_of}
use Rattle.lookup_spans.specs.Seen.{seen_of}
use Rattle.lookup_spans.specs.declared.Seen.{Seen}
use Rattle.lookup_texts.specs.NodeSpan.{span_told, span_answer}
use Rattle.lookup_texts.specs.Promises.{rows_before}
use Rattle.lookup_texts.specs.declared.Offsets.{Offsets}
use Rattle.lookup_texts.proofs.Numbered.{numbered_in, numbered_past}
use Rattle.lookup_texts.proofs.Nodes.{nodes_long, node_size, node_rows_lem, node_rows_within}

-- ---- What was seen, as an answer

abbrev pub ends_of : Answer Seen → Answer Offsets
ends_of None = None
ends_of (Some seen) = Some (record { start = record { 0 = seen.start }; end = record { 0 = seen.end } })

told : {seen : Answer Seen} (s : Option Span) → seen ≡ seen_of s → ends_of seen ≡ span_told s
told nothing e = ap ends_of e
told (some s) e = ap ends_of e

-- ---- The rows before

pub rows_before_none : (nodes : List ℕ) → rows_before nodes 0 ≡ 0
unfolding rows_before
rows_before_none nodes = refl

pub rows_before_more : (nodes : List ℕ) (i : ℕ) → rows_before nodes (i + 1) ≡ rows_before nodes i + get_or nodes (i * node_width) 0
unfolding rows_before
rows_before_more nodes i = rw add-one

-- ---- The answer

pub span_malformed : (r : Reading) (k : ℕ) → {why : Refusal} → shape_of r ≡ Err why → span_answer r k ≡ Err MalformedRecord
unfolding span_answer
span_malformed r k e = none_of _ _ r e

-- the rows that stand from j on
rows_there : {rows : List ℕ} {j count : ℕ} {own : List Row} → RowsAt rows j own → count ≡ length own → several row_at row_width count (drop j rows) ≡ own
rows_there {rows} {j} {count} {own} h e = ap₂ (several row_at row_width) e h.is ∙ several_back row_stored own h.rest

module _ {nodes rows : List ℕ} {f : Forest} (s : Stores nodes rows f) (k : ℕ) where
  pub span_past : length nodes ≤ k * node_width → span_answer (read nodes rows) k ≡ Ok None
  unfolding span_answer
  span_past h = any_of _ _ s ∙ ap Ok (numbered_past None (λ (E : Encoding). span_told (span_of E.rows)) (all_encodings f) k (omega (arith, nodes_long s)))

  module _ (h : k * node_width < length nodes) where
    -- a node's own rows lie within the rows
    pub own_rows_within : (rows_before nodes k + get_or nodes (k * node_width) 0) * row_width ≤ length rows
    own_rows_within =
        let l : k < length (all_encodings f) = omega (arith, nodes_long s) in
        rw (node_size s k l) (node_rows_within s k l)

    -- what was seen of the rows that stand after those of the nodes before
    module _ {first count : ℕ} {seen : Answer Seen} (ef : first ≡ rows_before nodes k) (ec : count ≡ get_or nodes (k * node_width) 0) (e : seen ≡ seen_of (span_of (several row_at row_width count (drop (first * row_width) rows)))) where
      abbrev seen_span : Option Span
      seen_span = span_of (several row_at row_width count (drop (first * row_width) rows))

      span_here : Ok (span_told seen_span) ≡ span_answer (read nodes rows) k
      unfolding span_answer
      span_here =
          let l : k < length (all_encodings f) = omega (arith, nodes_long s) in
          let own : several row_at row_width count (drop (first * row_width) rows) ≡ (get_or (all_encodings f) k empty).rows = rows_there {rows = rows} {j = first * row_width} (rw ef (node_rows_lem s k l)) (ec ∙ node_size s k l) in
          ap (λ (R : List Row). Ok (span_told (span_of R))) own
          ∙ sym (any_of _ _ s ∙ ap Ok (numbered_in None (λ (E : Encoding). span_told (span_of E.rows)) (all_encodings f) k empty l))

      pub span_there : {was : Answer Seen} → seen ≡ was → Ok (ends_of was) ≡ span_answer (read nodes rows) k
      span_there t = ap Ok (told seen_span (sym t ∙ e)) ∙ span_here

      pub span_missing : seen ≡ None → Ok None ≡ span_answer (read nodes rows) k
      span_missing t = span_there t

-- ---- What a user leans on

-- the answer for a node is the span of its own rows
pub span_found : (f : Forest) (k : ℕ) → k < length (all_encodings f) → span_answer (holds f) k ≡ Ok (span_told (span_of (get_or (all_encodings f) k empty).rows))
unfolding span_answer of_any
span_found f k l = ap Ok (numbered_in None (λ (E : Encoding). span_told (span_of E.rows)) (all_encodings f) k empty l)
