-- What is written for one node of a join: the numbers of the node, and of its own rows.
-- Assumes nothing: these are definitions.
use Rattle.std.specs.Prelude.{Bool, ℕ, ◌+◌, length}
use mathlib.Core.List.{List, ◌∷◌, flat_map}
use Rattle.record.specs.Tree.{Encoding, windows}
use Rattle.record.specs.Flat.{row_numbers, range_numbers}
use Rattle.join_trees.specs.Join.{join_rows, join_ranges, window_count}
use Rattle.join_view.specs.declared.View.{View}
use Rattle.join_view.specs.View.{rows_seen, ranges_seen}

abbrev pub node_numbers : View → Encoding → Encoding → List ℕ
node_numbers v S P = (length S.rows + length P.rows) ∷ window_count (length (windows S)) (length (windows P)) ∷ flat_map range_numbers (join_ranges (length S.rows) S.ranges (ranges_seen v (length P.rows) P.ranges))

abbrev pub own_numbers : Bool → View → Encoding → Encoding → List ℕ
own_numbers g v S P = flat_map row_numbers (join_rows g S.rows (rows_seen v P.rows))
