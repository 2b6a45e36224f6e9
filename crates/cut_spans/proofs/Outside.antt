-- Outside its conditions the statement does not hold: at max 0, where the former encoding stays with its own windows below
-- it, and where nothing is cut off, so that the former windows stay.
-- Assumes nothing.
use mathlib.Core.Path.{◌≡◌, sym, ap, ◌∙◌}
use mathlib.Core.Option.{Option, none as nothing, some}
use Prim.Native.Nat.{ℕ, ◌<◌}
use native.Mathlib.Omega.{arith}
use mathlib.Core.List.{[], ◌∷◌}
use lib.ListN.{length}
use Rattle.record.specs.Tree.{Row, Encoding, forest, windows}
use Rattle.record.specs.Walk.{all_encodings}
use Rattle.cut_plan.specs.declared.Direction.{Direction}
use Rattle.cut_windows.specs.Made.{plain}
use Rattle.truncate_write.specs.Truncated.{truncated}
use Rattle.truncate_write.proofs.Sizes.{truncated_whole, truncated_emptied}
use Rattle.lookup_spans.specs.Spans.{Span, span_from, among, span_of}
use Rattle.lookup_spans.proofs.Spans.{joint_none}
use Rattle.cut_spans.specs.Kept.{spans_of, SpanKept}

abbrev pub row : ℕ → ℕ → Row
row from to = record { id = 0; type_id = 0; pool = 0; text_start = 0; text_length = 0; word_mark = 0; word = 0; offset_start = from; offset_end = to; special = 0; attention = 1 }

-- a row from 3 to 5, and a window with a row from 0 to 99
abbrev pub narrow : Encoding
narrow = plain (row 3 5 ∷ []) (plain (row 0 99 ∷ []) [] ∷ [])

abbrev starts : Option Span → ℕ
starts nothing = 0
starts (some s) = s.start

-- a start of 3 is not a start of 0
differ : {a : Option Span} → a ≡ some (span_from 0 99) → a ≡ span_of narrow.rows → ⊥
unfolding span_of
differ e f = let z : ◌≡◌ {A = ℕ} 0 3 = ap starts (sym e ∙ f) in absurd (omega arith)

-- nothing is cut off
pub not_whole : (stride : ℕ) (d : Direction) → SpanKept narrow (truncated 1 stride d narrow) → ⊥
unfolding span_of
not_whole stride d h = differ (ap (λ (T : Encoding). among (spans_of (T ∷ windows T))) (truncated_whole 1 stride d narrow (omega arith))) h.kept

-- max 0
pub not_emptied : (stride : ℕ) (d : Direction) → SpanKept narrow (truncated 0 stride d narrow) → ⊥
unfolding span_of all_encodings
not_emptied stride d h = differ (ap (λ (T : Encoding). among (spans_of (all_encodings (forest (T ∷ []))))) (truncated_emptied 0 stride d narrow (omega arith) (omega arith))) h.kept_in_all

-- at max 0 the first half does: the former encoding is the only direct window
pub emptied_kept : (stride : ℕ) (d : Direction) (E : Encoding) → 0 < length E.rows → let T = truncated 0 stride d E in among (spans_of (T ∷ windows T)) ≡ span_of E.rows
unfolding span_of
emptied_kept stride d E h = ap (λ (T : Encoding). among (spans_of (T ∷ windows T))) (truncated_emptied 0 stride d E (omega arith) h) ∙ joint_none (span_of E.rows)
