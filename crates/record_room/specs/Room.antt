-- Whether a result has room, of which is known how much it takes.
-- Assumes nothing: this is a definition.
use Rattle.std.specs.Prelude.{Bool, ◌&&◌, ℕ, ◌*◌, leb}
use Rattle.record.specs.Flat.{row_width, node_width}
use Rattle.record_room.specs.declared.Size.{Size}

-- "2 means the result needs more rows, nodes or levels than the limits above or more rows or nodes than the output
-- holds": a result that takes this much, in an output of so many node numbers and row numbers
abbrev pub has_room : Size → ℕ → ℕ → Bool
has_room s nodes rows = s.fits && (leb (s.nodes * node_width) nodes && leb (s.rows * row_width) rows)
