-- How much encodings hold, and whether that has room.
-- Assumes nothing: these are definitions.
use Rattle.std.specs.Prelude.{Bool, ◌&&◌, ℕ, suc, leb}
use Rattle.record.specs.Tree.{Forest}
use Rattle.record.specs.WellFormed.{nodes_in, rows_in, levels, most_nodes, most_rows, most_levels}
use Rattle.record_room.specs.Room.{has_room}
use Rattle.record_extent.specs.declared.Extent.{Extent}

abbrev pub extent : ℕ → ℕ → ℕ → Extent
extent n r l = record { nodes = n; rows = r; levels = l }

abbrev pub size_of : Forest → Extent
size_of f = extent (nodes_in f) (rows_in f) (levels f)

-- within document 01's limits: the levels count the top one too
abbrev pub within : Extent → Bool
within s = leb s.nodes most_nodes && (leb s.rows most_rows && leb s.levels (suc most_levels))

-- "2 means the result needs more rows, nodes or levels than the limits above or more rows or nodes than the output
-- holds": this much in an output of so many node numbers and row numbers
abbrev pub roomy : Extent → ℕ → ℕ → Bool
roomy s nodes rows = has_room (record { fits = within s; nodes = s.nodes; rows = s.rows }) nodes rows
