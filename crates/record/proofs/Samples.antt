-- Small batches, read by computing.
-- Assumes nothing.
use mathlib.Core.Path.{◌≡◌, refl}
use mathlib.Core.List.{[], ◌∷◌, flat_map}
use Prim.Native.Nat.{ℕ, ◌*◌, ◌-◌}
use lib.ListN.{replicate}
use Rattle.record.specs.Tree.{Row, Forest, none, node, sequences, absent}
use Rattle.record.specs.Flat.{row_at, range_at, row_numbers, range_numbers, flat_nodes, flat_rows}
use Rattle.record.specs.Read.{several, test, then_parsed, parsed_node, parse, parse_all, holds, malformed, checked, read, fine_ok, fits_ok, well_ok}

row : ℕ → Row
row n = record { id = n; type_id = 0; pool = 0; text_start = 0; text_length = 0; word_mark = 0; word = 0; offset_start = 2; offset_end = 5; special = 0; attention = 1 }

-- two encodings, the first with a window
two : Forest
two = node (row 1 ∷ []) (replicate sequences absent) (node (row 2 ∷ row 3 ∷ []) (replicate sequences absent) none none) (node [] (replicate sequences absent) none none)

two_read : read (flat_nodes two) (flat_rows two) ≡ holds two
unfolding two row flat_map flat_nodes flat_rows row_at range_at row_numbers range_numbers several test then_parsed parsed_node parse parse_all checked read fine_ok fits_ok well_ok
two_read = refl

-- a row count without its rows
rows_missing : read (1000000 ∷ 0 ∷ replicate (3 * sequences) 0) [] ≡ malformed
unfolding row_at range_at several test then_parsed parsed_node parse parse_all checked read fine_ok fits_ok well_ok
rows_missing = refl

-- a mark of 2
mark_two : read (0 ∷ 0 ∷ 2 ∷ replicate (3 * sequences - 1) 0) [] ≡ malformed
unfolding row_at range_at several test then_parsed parsed_node parse parse_all checked read fine_ok fits_ok well_ok
mark_two = refl
