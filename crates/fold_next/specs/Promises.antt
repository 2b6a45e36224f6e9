-- What is asked and given where the next encodings of a batch, one or more, are joined to the one in the output.
-- Assumes nothing: these are definitions.
use Rattle.std.specs.Prelude.{◌≡◌, Bool, true, List, [], ◌∷◌, ◌++◌, ℕ, ◌+◌, ◌*◌, ◌<◌, length}
use Rattle.record.specs.Tree.{Forest, Encoding, listed, forest}
use Rattle.record.specs.Flat.{node_width}
use Rattle.record.specs.WellFormed.{nodes_in}
use Rattle.record.specs.Standing.{Here, Put}
use Rattle.record.specs.Outcome.{Room}
use Rattle.record.specs.declared.Spot.{Spot}
use Rattle.join_trees.specs.Join.{fold_from}
use Rattle.join_trees.specs.Offsets.{offsets_fit}

-- S stands at the front of the output, and those that are left from `at` to the end of the batch; once all of them are joined to
-- S there is room in the output and in the working store, and the offsets are within 32 bits.
pub record AskNext (S : Encoding) (left : Forest) (nodes rows : List ℕ) (at : Spot) (g : Bool) (out out' working working' : List ℕ) : Type 0 where
  pub here_s : Here out out' 0 0 (forest (S ∷ []))
  pub here : Here nodes rows at.node at.row left
  pub ends : at.node + nodes_in left * node_width ≡ length nodes
  pub more : at.node < length nodes
  pub within : offsets_fit (forest (fold_from g S (listed left) ∷ [])) ≡ true
  pub room : Room out out' (forest (fold_from g S (listed left) ∷ []))
  pub working_room : Room working working' (forest (fold_from g S (listed left) ∷ []))

-- The first of them, at least one, were joined to S, which was written from the front of the output on, and the rest stands at
-- `next`.
pub record Folded (S : Encoding) (left : Forest) (nodes rows : List ℕ) (at next : Spot) (g : Bool) (out out' out₁ out₁' : List ℕ) : Type 0 where
  pub done : List Encoding
  pub rest : Forest
  pub split : listed left ≡ done ++ listed rest
  pub put : Put (fold_from g S done ∷ []) out 0 out' 0 out₁ out₁'
  pub here : Here nodes rows next.node next.row rest
  pub ends : next.node + nodes_in rest * node_width ≡ length nodes
  pub on : at.node < next.node

-- Whatever stands there so.
abbrev pub FoldsNext : List ℕ → List ℕ → Spot → Bool → List ℕ → List ℕ → List ℕ → List ℕ → Spot → List ℕ → List ℕ → Type 0
FoldsNext nodes rows at g out out' working working' next out₁ out₁' =
    (S : Encoding) (left : Forest) → AskNext S left nodes rows at g out out' working working' → Folded S left nodes rows at next g out out' out₁ out₁'
