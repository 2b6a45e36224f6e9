-- What the walk over the nodes of a batch gives.
-- Assumes nothing: these are definitions.
use Rattle.std.specs.Prelude.{◌≡◌, cond, ℕ, ◌-◌, List, eqb}
use Rattle.record.specs.Tree.{Forest}
use Rattle.record.specs.WellFormed.{Stores}
use Rattle.profile_trees.specs.Profile.{first_broken}
use Rattle.profile_trees.specs.Promises.{held}
use Rattle.profile_trees.specs.declared.Break.{Break}

-- the first break of the batch that the two lists store
abbrev pub FirstFound : List ℕ → List ℕ → Break → Type 0
FirstFound nodes rows r = (f : Forest) → Stores nodes rows f → r ≡ held (first_broken f)

-- how many windows are still to come of the encoding at the top, after a node with so many windows: that node is at the top if none is
abbrev pub left_after : ℕ → ℕ → ℕ
left_after left windows = cond (eqb left 0) windows (left - 1)
