-- What is asked and given where a batch is folded.
-- Assumes nothing: these are definitions.
use Rattle.std.specs.Prelude.{◌≡◌, Bool, true, List, [], ◌∷◌, ℕ}
use Rattle.record.specs.Tree.{Forest, listed, forest}
use Rattle.record.specs.WellFormed.{Stores}
use Rattle.record.specs.Standing.{Put}
use Rattle.record.specs.Outcome.{Room}
use Rattle.join_trees.specs.Join.{fold}
use Rattle.join_trees.specs.Offsets.{fold_fits}

-- The two lists store a batch; its fold has room in the output and in the working store, and its offsets stay within 32
-- bits.
pub record AskFold (nodes rows : List ℕ) (g : Bool) (out out' working working' : List ℕ) : Type 0 where
  pub f : Forest
  pub stores : Stores nodes rows f
  pub within : fold_fits g (listed f) ≡ true
  pub room : Room out out' (forest (fold g (listed f) ∷ []))
  pub working_room : Room working working' (forest (fold g (listed f) ∷ []))

-- Whatever batch they store, its fold was written from the front of the output on.
abbrev pub WritesFold : List ℕ → List ℕ → Bool → List ℕ → List ℕ → List ℕ → List ℕ → Type 0
WritesFold nodes rows g out out' out₁ out₁' = (f : Forest) → Stores nodes rows f → Put (fold g (listed f) ∷ []) out 0 out' 0 out₁ out₁'
