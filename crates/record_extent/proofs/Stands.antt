-- Encodings that stand at a place may be measured there.
-- Assumes nothing.
use mathlib.Core.Path.{refl}
use Prim.Native.Nat.{ℕ}
use mathlib.Core.List.{List}
use Rattle.record.specs.Tree.{Forest, tops}
use Rattle.record.specs.Standing.{Here}
use Rattle.record_extent.specs.Promises.{Stands}

pub here_stands : {nodes rows : List ℕ} {i j : ℕ} {f : Forest} → Here nodes rows i j f → Stands nodes i (tops f) f
here_stands h = record { there = record { rest = h.at.rest; is = h.at.is }; counts = refl; fine = h.well.fine; few_nodes = h.well.fits.few_nodes; few_rows = h.well.fits.few_rows }
