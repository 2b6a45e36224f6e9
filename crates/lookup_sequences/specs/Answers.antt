-- What the lookups of sequences answer of a batch, refusals included. How an answer's numbers cross the C interface is said
-- in c_sequences.
-- Assumes nothing: these are definitions.
use Rattle.std.specs.Prelude.{cond, ℕ, ◌*◌, List, leb, length, Option, Result, Ok, Err}
use Rattle.record.specs.Read.{Reading, of_one}
use Rattle.record.specs.Outcome.{over}
use Rattle.record.specs.declared.Bounds.{Bounds}
use Rattle.record.specs.declared.Refusal.{Refusal}
use Rattle.record.specs.declared.Refusal.TheVariants.{MalformedRecord, NoRoom}
use Rattle.lookup_ranges.specs.Ranges.{sequence_range, n_sequences, get_sequence_ids}
use Rattle.lookup_holding.specs.Holding.{token_to_sequence}
use Rattle.lookup_holding.specs.Promises.{sequence_found}
use Rattle.lookup_holding.specs.declared.Sequence.{Sequence}
use Rattle.lookup_ranges.specs.declared.Rows.{Rows}

-- the rows of a sequence: from start up to, not including, end
abbrev pub rows_answer : Bounds → Rows
rows_answer b = record { start = record { 0 = b.start }; end = record { 0 = b.end } }

-- ---- The operations. "Lookups, span: 1. None is a normal result."

abbrev pub range_answer : Reading → ℕ → Result Rows Refusal
range_answer batch id = of_one (Err MalformedRecord) (λ E. Ok (rows_answer (sequence_range E id))) batch

abbrev pub sequence_count_answer : Reading → Result ℕ Refusal
sequence_count_answer batch = of_one (Err MalformedRecord) (λ E. Ok (n_sequences E)) batch

abbrev pub sequence_answer : Reading → ℕ → Result (Option Sequence) Refusal
sequence_answer batch row = of_one (Err MalformedRecord) (λ E. Ok (sequence_found (token_to_sequence E row))) batch

-- ---- The sequence column: its outcome, the answer, and what it leaves in the output

-- refused, or done: the number of rows, and their numbers
pub data ColumnOutcome : Type 0 where
  refused : Refusal → ColumnOutcome
  done : ℕ → List ℕ → ColumnOutcome

-- "the sequence column also 2": into an output of so many numbers
abbrev pub sequence_ids : Reading → ℕ → ColumnOutcome
sequence_ids batch room =
    of_one (refused MalformedRecord)
    (λ E. cond (leb (2 * length E.rows) room) (done (length E.rows) (get_sequence_ids E)) (refused NoRoom))
    batch

abbrev pub column_answer : ColumnOutcome → Result ℕ Refusal
column_answer (refused k) = Err k
column_answer (done n numbers) = Ok n

-- "A refusal changes no buffer"; "On success numbers past the result are untouched"
abbrev pub column_left : ColumnOutcome → List ℕ → List ℕ
column_left (refused k) was = was
column_left (done n numbers) was = over numbers was
