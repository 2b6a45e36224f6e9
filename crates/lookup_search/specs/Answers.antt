-- What a search answers: nothing, or the rows that are found. A search refuses nothing: that is for the operations of
-- lookup_words and lookup_chars. How an answer's numbers cross the C interface is said in c_words and c_chars.
-- Assumes nothing: these are definitions.
use Rattle.std.specs.Prelude.{ℕ, Option as Answer, Some, None}
use Rattle.std.proofs.Math.Option.{Option, none as nothing, some}
use Rattle.record.specs.declared.Bounds.{Bounds}
use Rattle.record.specs.declared.Row.{Row}
use Rattle.lookup_ranges.specs.declared.Rows.{Rows}

-- nothing, or the rows of a word from start up to, not including, end
abbrev pub tokens_answer : Option Bounds → Answer Rows
tokens_answer nothing = None
tokens_answer (some b) = Some (record { start = record { 0 = b.start }; end = record { 0 = b.end } })

-- nothing, or the row of a character
abbrev pub token_answer : Option ℕ → Answer Row
token_answer nothing = None
token_answer (some row) = Some (record { 0 = row })
