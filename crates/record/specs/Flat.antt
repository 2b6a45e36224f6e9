-- The record as it is lent: two lists of numbers, the nodes and the rows, depth first.
-- Assumes nothing: these are definitions.
use Rattle.std.specs.Prelude.{ℕ, ◌+◌, ◌*◌, length, get_or}
use mathlib.Core.List.{List, [], ◌∷◌, ◌++◌, flat_map}
use Rattle.record.specs.Tree.{Row, Range, Forest, none, node, tops, sequences}

-- "A row is 11 numbers"
abbrev pub row_width : ℕ
row_width = 11

-- "row count, count of its direct windows, then for each sequence id a present mark, start and end of its range"
abbrev pub node_width : ℕ
node_width = 2 + 3 * sequences

unfoldable pub row_numbers : Row → List ℕ
row_numbers r = r.id ∷ r.type_id ∷ r.pool ∷ r.text_start ∷ r.text_length ∷ r.word_mark ∷ r.word ∷ r.offset_start ∷ r.offset_end ∷ r.special ∷ r.attention ∷ []

unfoldable pub range_numbers : Range → List ℕ
range_numbers p = p.present ∷ p.start ∷ p.end ∷ []

-- "each stored as its node, then its windows in order, depth first"
unfoldable pub flat_nodes : Forest → List ℕ
flat_nodes none = []
flat_nodes (node r q w x) = length r ∷ tops w ∷ (flat_map range_numbers q ++ (flat_nodes w ++ flat_nodes x))

-- "rows follow in the same order"
unfoldable pub flat_rows : Forest → List ℕ
flat_rows none = []
flat_rows (node r q w x) = flat_map row_numbers r ++ (flat_rows w ++ flat_rows x)

-- The row and the range at the front of a list of numbers.
unfoldable pub row_at : List ℕ → Row
row_at l = record { id = get_or l 0 0; type_id = get_or l 1 0; pool = get_or l 2 0; text_start = get_or l 3 0; text_length = get_or l 4 0; word_mark = get_or l 5 0; word = get_or l 6 0; offset_start = get_or l 7 0; offset_end = get_or l 8 0; special = get_or l 9 0; attention = get_or l 10 0 }

unfoldable pub range_at : List ℕ → Range
range_at l = record { present = get_or l 0 0; start = get_or l 1 0; end = get_or l 2 0 }
