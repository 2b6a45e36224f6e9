-- What is asked and given where a run, encodings without windows one after another, is joined at once to the encoding in the
-- output.
-- Assumes nothing: these are definitions.
use Rattle.std.specs.Prelude.{◌≡◌, Bool, true, List, [], ◌∷◌, ℕ, ◌+◌, ◌*◌, ◌≤◌, length}
use Rattle.record.specs.Tree.{Encoding, forest}
use Rattle.record.specs.Flat.{row_width, node_width}
use Rattle.record.specs.WellFormed.{nodes_in, rows_in}
use Rattle.record.specs.Standing.{spot, Here, Put}
use Rattle.record.specs.Outcome.{Room}
use Rattle.record.specs.declared.Spot.{Spot}
use Rattle.join_trees.specs.Join.{join, fold}
use Rattle.join_trees.specs.Offsets.{join_fits}
use Rattle.fold_run.specs.Promises.{Bare}

-- S stands at the front of the output, and from p to `end` the run Ps; the join of S with the fold of the run has room in
-- the output and in the working store, and its offsets stay within 32 bits.
pub record AskRun (S : Encoding) (Ps : List Encoding) (nodes rows : List ℕ) (p end : Spot) (g : Bool) (out out' working working' : List ℕ) : Type 0 where
  pub here_s : Here out out' 0 0 (forest (S ∷ []))
  pub here_p : Here nodes rows p.node p.row (forest Ps)
  pub bare : Bare Ps
  pub ends : end ≡ spot (p.node + nodes_in (forest Ps) * node_width) (p.row + rows_in (forest Ps) * row_width)
  pub on : end.node ≤ length nodes
  pub within : join_fits g S (fold g Ps) ≡ true
  pub room : Room out out' (forest (join g S (fold g Ps) ∷ []))
  pub working_room : Room working working' (forest (join g S (fold g Ps) ∷ []))

-- Whatever stands there so, it was written from the front of the output on: the run folded by itself, joined once.
abbrev pub WritesRun : List ℕ → List ℕ → Spot → Spot → Bool → List ℕ → List ℕ → List ℕ → List ℕ → List ℕ → List ℕ → Type 0
WritesRun nodes rows p end g out out' working working' out₁ out₁' =
    (S : Encoding) (Ps : List Encoding) → AskRun S Ps nodes rows p end g out out' working working' → Put (join g S (fold g Ps) ∷ []) out 0 out' 0 out₁ out₁'
