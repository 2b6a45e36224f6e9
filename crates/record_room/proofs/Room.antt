-- What the test of room tells.
-- Assumes nothing.
use mathlib.Core.Path.{◌≡◌}
use mathlib.Core.Bool.{true}
use Prim.Native.Nat.{ℕ, ◌*◌, ◌≤◌}
use Rattle.record.specs.Flat.{row_width, node_width}
use Rattle.record.proofs.WellFormed.{Tells, tells_le, tells_and₃}
use Rattle.record_room.specs.declared.Size.{Size}
use Rattle.record_room.specs.Room.{has_room}

pub tells_room : (s : Size) (n m : ℕ) → Tells (has_room s n m) ((s.fits ≡ true) × (s.nodes * node_width ≤ n) × (s.rows * row_width ≤ m))
tells_room s n m = tells_and₃ (record { so = λ e. e; back = λ e. e }) (tells_le (s.nodes * node_width) n) (tells_le (s.rows * row_width) m)
