-- What is written number by number: the row of a `NewRow`, and a present range.
-- Assumes nothing: these are definitions.
use Rattle.std.specs.Prelude.{ℕ}
use Rattle.record.specs.Tree.{Row, Range}
use Rattle.record_write.specs.declared.NewRow.{NewRow}

abbrev pub row_of : NewRow → Row
row_of r = record { id = r.id; type_id = r.type_id; pool = r.pool; text_start = r.text_start; text_length = r.text_length; word_mark = r.word_mark; word = r.word; offset_start = r.offset_start; offset_end = r.offset_end; special = r.special; attention = r.attention }

abbrev pub present_range : ℕ → ℕ → Range
present_range start end = record { present = 1; start = start; end = end }
