-- What the functions that write a join ask and give, of what f makes of the two.
-- Assumes nothing: these are definitions.
use Rattle.std.specs.Prelude.{◌≡◌, Bool, true, List, [], ◌∷◌, ℕ, ◌+◌, ◌*◌, ◌≤◌, length}
use Rattle.record.specs.Tree.{Encoding, forest}
use Rattle.record.specs.Flat.{row_width, node_width}
use Rattle.record.specs.WellFormed.{Fits, nodes_in, rows_in}
use Rattle.record.specs.Standing.{spot, Here, Put}
use Rattle.record.specs.declared.Spot.{Spot}
use Rattle.join_trees.specs.Offsets.{offsets_fit}
use Rattle.join_view.specs.declared.View.{View}
use Rattle.join_view.specs.View.{ViewFine}
use Rattle.join_write.specs.Joins.{joined}

-- The two stand there, what is written stays within the limits and its offsets within 32 bits, and from `at` on there is room.
pub record AskJoining (f : View → Bool → Encoding → Encoding → List Encoding) (nodes rows : List ℕ) (s : Spot) (nodes' rows' : List ℕ) (p : Spot) (v : View) (g : Bool) (out out' : List ℕ) (at : Spot) : Type 0 where
  pub S : Encoding
  pub P : Encoding
  pub here_s : Here nodes rows s.node s.row (forest (S ∷ []))
  pub here_p : Here nodes' rows' p.node p.row (forest (P ∷ []))
  pub view_fine : ViewFine v
  pub within : offsets_fit (forest (f v g S P)) ≡ true
  pub limits : Fits (forest (f v g S P))
  pub nodes_fit : at.node + nodes_in (forest (f v g S P)) * node_width ≤ length out
  pub rows_fit : at.row + rows_in (forest (f v g S P)) * row_width ≤ length out'

-- The encodings fs were written from `at` on, and r is where what follows goes.
pub record Wrote (fs : List Encoding) (out out' : List ℕ) (at : Spot) (r : Spot) (out₁ out₁' : List ℕ) : Type 0 where
  pub put : Put fs out at.node out' at.row out₁ out₁'
  pub next : r ≡ spot (at.node + nodes_in (forest fs) * node_width) (at.row + rows_in (forest fs) * row_width)

-- Whatever two stand there.
abbrev pub WritesJoining : (View → Bool → Encoding → Encoding → List Encoding) → List ℕ → List ℕ → Spot → List ℕ → List ℕ → Spot → View → Bool → List ℕ → List ℕ → Spot → Spot → List ℕ → List ℕ → Type 0
WritesJoining f nodes rows s nodes' rows' p v g out out' at r out₁ out₁' =
    (S P : Encoding) → Here nodes rows s.node s.row (forest (S ∷ [])) → Here nodes' rows' p.node p.row (forest (P ∷ [])) → Wrote (f v g S P) out out' at r out₁ out₁'

-- ---- The join itself

abbrev pub AskJoin : List ℕ → List ℕ → Spot → List ℕ → List ℕ → Spot → View → Bool → List ℕ → List ℕ → Spot → Type 0
AskJoin = AskJoining joined

abbrev pub WritesJoin : List ℕ → List ℕ → Spot → List ℕ → List ℕ → Spot → View → Bool → List ℕ → List ℕ → Spot → Spot → List ℕ → List ℕ → Type 0
WritesJoin = WritesJoining joined
