-- What writing the numbers of a node of a join asks and gives.
-- Assumes nothing: these are definitions.
use Rattle.std.specs.Prelude.{◌≡◌, List, ℕ, ◌+◌, ◌≤◌, length}
use Rattle.std.proofs.lemmas.List.Edits.{sets}
use Rattle.record.specs.Tree.{Encoding, windows}
use Rattle.record.specs.Flat.{node_width}
use Rattle.record.specs.WellFormed.{most_nodes, most_rows}
use Rattle.join_trees.specs.Join.{window_count}
use Rattle.join_view.specs.declared.View.{View}
use Rattle.join_view.specs.View.{ViewFine}
use Rattle.join_ranges.specs.Promises.{NodeAt}
use Rattle.join_view.specs.Node.{node_numbers}

-- The two nodes stand there, and there is room for the node of their join.
pub record AskNumbers (nodes : List ℕ) (i : ℕ) (nodes' : List ℕ) (k : ℕ) (v : View) (out : List ℕ) (at : ℕ) : Type 0 where
  pub S : Encoding
  pub P : Encoding
  pub there_s : NodeAt nodes i S
  pub there_p : NodeAt nodes' k P
  pub view_fine : ViewFine v
  pub few_windows : window_count (length (windows S)) (length (windows P)) ≤ most_nodes
  pub few_rows : length S.rows + length P.rows ≤ most_rows
  pub fits : at + node_width ≤ length out

pub record WritesNumbers (nodes : List ℕ) (i : ℕ) (nodes' : List ℕ) (k : ℕ) (v : View) (out : List ℕ) (at : ℕ) (out₁ : List ℕ) : Type 0 where
  pub numbers : (S P : Encoding) → NodeAt nodes i S → NodeAt nodes' k P → out₁ ≡ sets out at (node_numbers v S P)
