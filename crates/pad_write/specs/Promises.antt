-- What `write_padded` asks and gives.
-- Assumes nothing: these are definitions.
use Rattle.std.specs.Prelude.{◌≡◌, ℕ, ◌*◌, ◌≤◌, List, length}
use Rattle.std.proofs.lemmas.List.Edits.{sets}
use Rattle.record.specs.Tree.{Forest}
use Rattle.record.specs.Flat.{row_width, flat_nodes, flat_rows}
use Rattle.record.specs.WellFormed.{Stores, most_rows}
use Rattle.pad_length.specs.Target.{rows_with}

-- The two lists store encodings, and there is room for them once they are padded.
pub record AskPadded (nodes rows : List ℕ) (target : ℕ) (out out' : List ℕ) : Type 0 where
  pub f : Forest
  pub stores : Stores nodes rows f
  pub few_rows : rows_with target f ≤ most_rows
  pub nodes_fit : length nodes ≤ length out
  pub rows_fit : rows_with target f * row_width ≤ length out'

-- The encodings F were written from the front of both lists on.
pub record Filled (F : Forest) (out out' out₁ out₁' : List ℕ) : Type 0 where
  pub nodes_put : out₁ ≡ sets out 0 (flat_nodes F)
  pub rows_put : out₁' ≡ sets out' 0 (flat_rows F)
