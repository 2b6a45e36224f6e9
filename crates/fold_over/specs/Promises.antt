-- One encoding more: what is asked and given where the encoding in the output is joined with another, seen through a view.
-- Assumes nothing: these are definitions.
use Rattle.std.specs.Prelude.{◌≡◌, Bool, true, List, [], ◌∷◌, ℕ}
use Rattle.record.specs.Tree.{Encoding, forest}
use Rattle.record.specs.Standing.{Here, Put}
use Rattle.record.specs.Outcome.{Room}
use Rattle.join_trees.specs.Join.{join}
use Rattle.join_trees.specs.Offsets.{join_fits}
use Rattle.record.specs.declared.Spot.{Spot}
use Rattle.join_view.specs.declared.View.{View}
use Rattle.join_view.specs.View.{seen, ViewFine}

-- S stands at the front of the output and P at the spot; the join of S with P as it is seen has room in the output and in
-- the working store, and its offsets stay within 32 bits.
pub record AskStep (nodes rows : List ℕ) (p : Spot) (v : View) (g : Bool) (out out' working working' : List ℕ) : Type 0 where
  pub S : Encoding
  pub P : Encoding
  pub here_s : Here out out' 0 0 (forest (S ∷ []))
  pub here_p : Here nodes rows p.node p.row (forest (P ∷ []))
  pub view_fine : ViewFine v
  pub within : join_fits g S (seen v P) ≡ true
  pub room : Room out out' (forest (join g S (seen v P) ∷ []))
  pub working_room : Room working working' (forest (join g S (seen v P) ∷ []))

-- Whatever two stand there, their join was written from the front of the output on.
abbrev pub WritesStep : List ℕ → List ℕ → Spot → View → Bool → List ℕ → List ℕ → List ℕ → List ℕ → Type 0
WritesStep nodes rows p v g out out' out₁ out₁' =
    (S P : Encoding) → Here out out' 0 0 (forest (S ∷ [])) → Here nodes rows p.node p.row (forest (P ∷ [])) → Put (join g S (seen v P) ∷ []) out 0 out' 0 out₁ out₁'
