-- What writing one node of a join, with its rows, asks and gives.
-- Assumes nothing: these are definitions.
use Rattle.std.specs.Prelude.{◌≡◌, Bool, List, [], ◌∷◌, ℕ, ◌+◌, ◌*◌, ◌≤◌, length}
use Rattle.std.proofs.lemmas.List.Edits.{sets}
use Rattle.record.specs.Tree.{Encoding, forest, windows}
use Rattle.record.specs.Flat.{row_width, node_width}
use Rattle.record.specs.WellFormed.{most_nodes, most_rows}
use Rattle.record.specs.Standing.{spot, Here}
use Rattle.record.specs.declared.Spot.{Spot}
use Rattle.join_trees.specs.Join.{base, window_count}
use Rattle.join_trees.specs.Offsets.{MovedWithin}
use Rattle.join_view.specs.declared.View.{View}
use Rattle.join_view.specs.View.{ViewFine}
use Rattle.join_view.specs.Node.{node_numbers, own_numbers}

-- The two stand there, their offsets stay within 32 bits, and from `at` on there is room for the node and its rows.
pub record AskNode (nodes rows : List ℕ) (s : Spot) (nodes' rows' : List ℕ) (p : Spot) (v : View) (g : Bool) (out out' : List ℕ) (at : Spot) : Type 0 where
  pub S : Encoding
  pub P : Encoding
  pub here_s : Here nodes rows s.node s.row (forest (S ∷ []))
  pub here_p : Here nodes' rows' p.node p.row (forest (P ∷ []))
  pub view_fine : ViewFine v
  pub few_windows : window_count (length (windows S)) (length (windows P)) ≤ most_nodes
  pub few_rows : length S.rows + length P.rows ≤ most_rows
  pub within : MovedWithin (base g S.rows) P.rows
  pub nodes_fit : at.node + node_width ≤ length out
  pub rows_fit : at.row + (length S.rows + length P.rows) * row_width ≤ length out'

-- Whatever two stand there, the node of their join and its own rows were written, and r is where what follows goes.
pub record NodeWritten (v : View) (g : Bool) (S P : Encoding) (out out' : List ℕ) (at : Spot) (r : Spot) (out₁ out₁' : List ℕ) : Type 0 where
  pub nodes_are : out₁ ≡ sets out at.node (node_numbers v S P)
  pub rows_are : out₁' ≡ sets out' at.row (own_numbers g v S P)
  pub next : r ≡ spot (at.node + node_width) (at.row + (length S.rows + length P.rows) * row_width)

abbrev pub WritesNode : List ℕ → List ℕ → Spot → List ℕ → List ℕ → Spot → View → Bool → List ℕ → List ℕ → Spot → Spot → List ℕ → List ℕ → Type 0
WritesNode nodes rows s nodes' rows' p v g out out' at r out₁ out₁' =
    (S P : Encoding) → Here nodes rows s.node s.row (forest (S ∷ [])) → Here nodes' rows' p.node p.row (forest (P ∷ [])) → NodeWritten v g S P out out' at r out₁ out₁'
