-- What padding makes of encodings (document 01, "Pad").
-- Assumes nothing: these are definitions.
use Rattle.std.specs.Prelude.{ℕ, ◌-◌, length}
use Rattle.record.specs.Tree.{Forest, none, node}
use Rattle.cut_plan.specs.declared.Direction.{Direction}
use Rattle.pad_rows.specs.declared.PadToken.{PadToken}
use Rattle.pad_rows.specs.NewRows.{padded_rows}
use Rattle.pad_nodes.specs.Shifted.{padded_ranges}

-- "Pad: windows at every level too." "A node already long enough is unchanged": it lacks no rows (`padded_long`)
abbrev pub padded : ℕ → PadToken → Direction → Forest → Forest
padded target token d none = none
padded target token d (node r q w x) = node (padded_rows target token d r) (padded_ranges d (target - length r) q) (padded target token d w) (padded target token d x)
