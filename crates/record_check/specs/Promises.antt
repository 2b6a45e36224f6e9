-- What the pass over the nodes sees: the tree, its widths, its levels and its ranges.
-- Assumes nothing: these are definitions.
use Rattle.std.specs.Prelude.{◌≡◌, ℕ, suc, ◌≤◌, List, length, Option, Some, None}
use Rattle.record.specs.Tree.{Forest, none, node, tops, sequences}
use Rattle.record.specs.Flat.{flat_nodes, flat_rows}
use Rattle.record.specs.WellFormed.{most_levels}
use Rattle.record_fields.specs.Promises.{NodesFine}

-- the top stands l levels below the batch's top, and no node is more than 16 below it
unfoldable pub Good : ℕ → Forest → Type 0
Good l none = Unit {0}
Good l (node r q w x) = (l ≤ most_levels) × (length q ≡ sequences) × Good (suc l) w × Good l x

-- the two lists store m encodings, which are f
pub record Builds (m : ℕ) (nodes rows : List ℕ) (f : Forest) : Type 0 where
  pub counts : tops f ≡ m
  pub nodes_are : flat_nodes f ≡ nodes
  pub rows_are : flat_rows f ≡ rows
  pub good : Good 0 f

unfoldable pub Built : ℕ → List ℕ → List ℕ → Type 0
Built m nodes rows = (f : Forest) × Builds m nodes rows f

-- `Some m` exactly if the lists store encodings with fine ranges, which then are m
abbrev pub Passes : List ℕ → List ℕ → Option ℕ → Type 0
Passes nodes rows None = (m : ℕ) → Built m nodes rows → NodesFine nodes → ⊥
Passes nodes rows (Some k) = Built k nodes rows × ((m : ℕ) → Built m nodes rows → m ≡ k) × NodesFine nodes
