-- A result has room if what it holds has.
-- Assumes nothing.
use mathlib.Core.Path.{◌≡◌, refl}
use mathlib.Core.Bool.{true, ◌&&◌, cond}
use Prim.Native.Nat.{ℕ, suc, ◌*◌, ◌≤◌}
use mathlib.Core.List.{List}
use lib.Dec.{leb}
use lib.ListN.{length}
use Rattle.record.specs.Tree.{Forest}
use Rattle.record.specs.Flat.{row_width, node_width}
use Rattle.record.specs.WellFormed.{most_nodes, most_rows, most_levels}
use Rattle.record.specs.Read.{fits_ok}
use Rattle.record.specs.Outcome.{refused, done, in_room}
use Rattle.record.specs.declared.Refusal.TheVariants.{NoRoom}
use Rattle.record.proofs.WellFormed.{Tells, tells_le, tells_and}
use Rattle.record_extent.specs.declared.Extent.{Extent}
use Rattle.record_extent.specs.Size.{size_of, roomy}

pub room_by_size : (nodes rows : List ℕ) (f : Forest) → in_room nodes rows f ≡ cond (roomy (size_of f) (length nodes) (length rows)) (done f) (refused NoRoom)
unfolding in_room fits_ok
room_by_size nodes rows f = refl

-- what the test says of the output
pub roomy_fits : (s : Extent) (n r : ℕ) → roomy s n r ≡ true → (s.nodes * node_width ≤ n) × (s.rows * row_width ≤ r)
roomy_fits s n r e = let p = (tells_and (limits s) (tells_and (tells_le (s.nodes * node_width) n) (tells_le (s.rows * row_width) r))).so e in (p.1.0, p.1.1)
  where
    limits : (s : Extent) → Tells (leb s.nodes most_nodes && (leb s.rows most_rows && leb s.levels (suc most_levels))) ((s.nodes ≤ most_nodes) × ((s.rows ≤ most_rows) × (s.levels ≤ suc most_levels)))
    limits s = tells_and (tells_le s.nodes most_nodes) (tells_and (tells_le s.rows most_rows) (tells_le s.levels (suc most_levels)))
