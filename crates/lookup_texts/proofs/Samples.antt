-- Two encodings, the first with a window, and a log with a start and an end token: texts and spans by computing, numbered
-- depth first.
-- Assumes nothing.
use mathlib.Core.Path.{◌≡◌, refl}
use mathlib.Core.List.{List, [], ◌∷◌}
use Prim.Native.Nat.{ℕ}
use lib.ListN.{replicate}
use Rattle.record.specs.Tree.{Row, Forest, none, node, sequences, absent}
use Rattle.record.specs.Read.{malformed, holds, of_any}
use Rattle.record.specs.Walk.{all_rows, all_encodings}
use Rattle.record.specs.declared.Refusal.TheVariants.{MalformedRecord, TextOutsidePool}
use Rattle.lookup_texts.specs.Numbered.{numbered}
use Rattle.lookup_texts.specs.RowText.{text_of, text_answer, part_of}
use Rattle.lookup_spans.specs.Spans.{span_of}
use Rattle.lookup_texts.specs.NodeSpan.{span_answer}
use Rattle.std.specs.Prelude.{Some, None, Ok, Err}

row : ℕ → ℕ → ℕ → ℕ → ℕ → Row
row p a n from to = record { id = 0; type_id = 0; pool = p; text_start = a; text_length = n; word_mark = 0; word = 0; offset_start = from; offset_end = to; special = 0; attention = 1 }

-- rows 0 and 1 in node 0, row 2 in its window, node 1; node 2 has none
batch : Forest
batch = node (row 0 1 2 3 5 ∷ row 1 0 3 5 9 ∷ []) (replicate sequences absent) (node (row 0 3 1 4 7 ∷ []) (replicate sequences absent) none none) (node [] (replicate sequences absent) none none)

tokens : List ℕ
tokens = 97 ∷ 98 ∷ 99 ∷ []

added : List ℕ
added = 120 ∷ 121 ∷ 122 ∷ []

token_text : text_answer (holds batch) 0 tokens added ≡ Ok (Some (record { pool = 0; start = 1; length = 2 }))
unfolding row batch tokens added text_answer text_of of_any numbered all_rows
token_text = refl

token_part : part_of (text_answer (holds batch) 0 tokens added) tokens added ≡ 98 ∷ 99 ∷ []
unfolding row batch tokens added text_answer text_of of_any numbered all_rows
token_part = refl

-- to the end of the other pool
added_part : part_of (text_answer (holds batch) 1 tokens added) tokens added ≡ 120 ∷ 121 ∷ 122 ∷ []
unfolding row batch tokens added text_answer text_of of_any numbered all_rows
added_part = refl

-- one byte past its pool
window_text : text_answer (holds batch) 2 tokens added ≡ Err TextOutsidePool
unfolding row batch tokens added text_answer text_of of_any numbered all_rows
window_text = refl

past_rows : text_answer (holds batch) 3 tokens added ≡ Ok None
unfolding row batch text_answer of_any numbered all_rows
past_rows = refl

no_rows : text_answer (holds none) 0 tokens added ≡ Ok None
unfolding text_answer of_any numbered all_rows
no_rows = refl

refused_text : text_answer malformed 0 tokens added ≡ Err MalformedRecord
unfolding text_answer of_any
refused_text = refl

first_span : span_answer (holds batch) 0 ≡ Ok (Some (record { start = record { 0 = 3 }; end = record { 0 = 9 } }))
unfolding row batch span_answer span_of of_any numbered all_encodings
first_span = refl

window_span : span_answer (holds batch) 1 ≡ Ok (Some (record { start = record { 0 = 4 }; end = record { 0 = 7 } }))
unfolding row batch span_answer span_of of_any numbered all_encodings
window_span = refl

empty_span : span_answer (holds batch) 2 ≡ Ok None
unfolding row batch span_answer span_of of_any numbered all_encodings
empty_span = refl

past_nodes : span_answer (holds batch) 3 ≡ Ok None
unfolding row batch span_answer of_any numbered all_encodings
past_nodes = refl

-- ---- Added rows

masked : ℕ → ℕ → ℕ → Row
masked mask from to = record { id = 0; type_id = 0; pool = 0; text_start = 0; text_length = 0; word_mark = 0; word = 0; offset_start = from; offset_end = to; special = mask; attention = 1 }

-- a start token, four rows of which one has mask 2, an end token; and a window of a start and an end token alone
log : Forest
log = node (masked 1 0 0 ∷ masked 0 6 9 ∷ masked 0 4 7 ∷ masked 2 1 99 ∷ masked 0 5 8 ∷ masked 1 0 0 ∷ []) (replicate sequences absent) (node (masked 1 0 0 ∷ masked 1 0 0 ∷ []) (replicate sequences absent) none none) none

-- its least start stands in its third row, its greatest end in its second
log_span : span_answer (holds log) 0 ≡ Ok (Some (record { start = record { 0 = 4 }; end = record { 0 = 9 } }))
unfolding masked log span_answer span_of of_any numbered all_encodings
log_span = refl

added_span : span_answer (holds log) 1 ≡ Ok None
unfolding masked log span_answer span_of of_any numbered all_encodings
added_span = refl
