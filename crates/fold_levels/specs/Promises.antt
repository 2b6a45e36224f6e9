-- What the profile of the fold of a batch asks and gives.
-- Assumes nothing: these are definitions.
use Rattle.std.specs.Prelude.{◌≡◌, Bool, List, ℕ, Option}
use Rattle.record.specs.Tree.{Forest, listed}
use Rattle.record.specs.Flat.{flat_nodes}
use Rattle.record.specs.WellFormed.{WellFormed}
use Rattle.join_trees.specs.Join.{fold}
use Rattle.join_levels.specs.declared.Profile.{Profile}
use Rattle.join_levels.specs.Levels.{Measures}

-- The nodes are those of a well-formed batch.
pub record HoldsNodes (nodes : List ℕ) (f : Forest) : Type 0 where
  pub is : flat_nodes f ≡ nodes
  pub well : WellFormed f

pub record Held (nodes : List ℕ) : Type 0 where
  pub f : Forest
  pub holds : HoldsNodes nodes f

-- The fold of any encodings that these nodes store, growing or not.
abbrev pub MeasuresFold : List ℕ → Option Profile → Type 0
MeasuresFold nodes r = (growing : Bool) (f : Forest) → HoldsNodes nodes f → Measures (fold growing (listed f)) r
