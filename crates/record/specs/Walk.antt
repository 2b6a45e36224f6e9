-- The rows and the encodings of a whole batch, numbered as they are stored.
-- Assumes nothing: these are definitions.
use Rattle.std.specs.Prelude.{List, [], ◌∷◌, ◌++◌}
use Rattle.record.specs.Tree.{Row, Forest, none, node, Encoding}

-- "rows follow in the same order": all rows of a batch, windows included, depth first
unfoldable pub all_rows : Forest → List Row
all_rows none = []
all_rows (node r q w x) = r ++ (all_rows w ++ all_rows x)

-- "its node, then its windows in order, depth first": all encodings of a batch, windows included
unfoldable pub all_encodings : Forest → List Encoding
all_encodings none = []
all_encodings (node r q w x) = record { rows = r; ranges = q; below = w } ∷ (all_encodings w ++ all_encodings x)
