-- Tokens, and the row of each (document 01, module 1).
-- Assumes nothing: these are definitions.
use Rattle.std.specs.Prelude.{ℕ, List, get_or}
use Rattle.record.specs.Tree.{Row}

-- "a token is 5 numbers"
abbrev pub token_width : ℕ
token_width = 5

-- "id, text start and length in pool 0, offset start and end": the token at the front of a list of numbers, as a row with
-- "type as given, words none, attention 1, special 0"
unfoldable pub token_row : ℕ → List ℕ → Row
token_row type_id l = record { id = get_or l 0 0; type_id = type_id; pool = 0; text_start = get_or l 1 0; text_length = get_or l 2 0; word_mark = 0; word = 0; offset_start = get_or l 3 0; offset_end = get_or l 4 0; special = 0; attention = 1 }
