-- One batch after another: each is padded by itself.
-- Assumes nothing.
use mathlib.Core.Path.{◌≡◌, refl, ap}
use Prim.Native.Nat.{ℕ, ◌-◌}
use lib.ListN.{length}
use Rattle.record.specs.Tree.{Forest, none, node}
use Rattle.record.specs.Passing.{followed}
use Rattle.cut_plan.specs.declared.Direction.{Direction}
use Rattle.pad_rows.specs.declared.PadToken.{PadToken}
use Rattle.pad_write.specs.Padded.{padded}
use Rattle.pad_nodes.specs.Shifted.{padded_ranges}
use Rattle.pad_rows.specs.NewRows.{padded_rows}

pub followed_padded : (target : ℕ) (token : PadToken) (d : Direction) (f y : Forest) → padded target token d (followed f y) ≡ followed (padded target token d f) (padded target token d y)
followed_padded target token d none y = refl
followed_padded target token d (node r q w x) y = ap (node (padded_rows target token d r) (padded_ranges d (target - length r) q) (padded target token d w)) (followed_padded target token d x y)
