-- What is asked and given where an encoding is joined with the one that stands in the output already: neither has windows,
-- so the join is written in its place (document 01, "`merge` folds from the empty encoding").
-- Assumes nothing: these are definitions.
use Rattle.std.specs.Prelude.{◌≡◌, Bool, List, [], ◌∷◌, ℕ, ◌+◌, ◌*◌, ◌≤◌, length}
use Rattle.record.specs.Tree.{Encoding, forest, windows}
use Rattle.record.specs.Flat.{row_width}
use Rattle.record.specs.WellFormed.{most_rows}
use Rattle.record.specs.Standing.{Here, Put}
use Rattle.record.specs.declared.Spot.{Spot}
use Rattle.join_trees.specs.Join.{base, join}
use Rattle.join_trees.specs.Offsets.{MovedWithin}
use Rattle.join_view.specs.declared.View.{View}
use Rattle.join_view.specs.View.{ViewFine, seen}

-- S stands at the front of the output and P at p, neither has windows, P's offsets stay within 32 bits, and there is room
-- for P's rows after those of S.
pub record AskAppend (nodes rows : List ℕ) (p : Spot) (v : View) (g : Bool) (out out' : List ℕ) : Type 0 where
  pub S : Encoding
  pub P : Encoding
  pub here_s : Here out out' 0 0 (forest (S ∷ []))
  pub alone_s : windows S ≡ []
  pub here_p : Here nodes rows p.node p.row (forest (P ∷ []))
  pub alone_p : windows P ≡ []
  pub view_fine : ViewFine v
  pub few_rows : length S.rows + length P.rows ≤ most_rows
  pub within : MovedWithin (base g S.rows) P.rows
  pub rows_fit : (length S.rows + length P.rows) * row_width ≤ length out'

-- Whatever two stand there so, their join was written in the place of the first.
abbrev pub Appends : List ℕ → List ℕ → Spot → View → Bool → List ℕ → List ℕ → List ℕ → List ℕ → Type 0
Appends nodes rows p v g out out' out₁ out₁' =
    (S P : Encoding) → Here out out' 0 0 (forest (S ∷ [])) → windows S ≡ [] → Here nodes rows p.node p.row (forest (P ∷ [])) → windows P ≡ [] → Put (join g S (seen v P) ∷ []) out 0 out' 0 out₁ out₁'
