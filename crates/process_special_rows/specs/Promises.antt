-- What is asked and given where every node gets rows after its own.
-- Assumes nothing: these are definitions.
use Rattle.std.specs.Prelude.{◌≡◌, List, ℕ, ◌+◌, ◌*◌, ◌/◌, ◌≤◌, length}
use Rattle.std.proofs.lemmas.List.Edits.{sets}
use Rattle.record.specs.Tree.{Forest}
use Rattle.record.specs.Flat.{row_width, flat_nodes, flat_rows}
use Rattle.record.specs.WellFormed.{Stores, rows_in, most_rows}
use Rattle.template_entries.specs.Table.{member_width}
use Rattle.process_special_rows.specs.Lengthened.{special_rows, lengthened}

-- The two lists store encodings, the members are among those of the table, and there is room for the rows with the new ones.
pub record AskLengthened (members : List ℕ) (first count t : ℕ) (nodes rows out : List ℕ) : Type 0 where
  pub f : Forest
  pub stores : Stores nodes rows f
  pub among : first + count ≤ length members / member_width
  pub few_rows : rows_in (lengthened (special_rows members first count t) f) ≤ most_rows
  pub fits : rows_in (lengthened (special_rows members first count t) f) * row_width ≤ length out

-- The nodes are those of F now, and its rows were written from the front of `out` on, up to `end`.
pub record Lengthens (F : Forest) (out nodes₁ out₁ : List ℕ) (end : ℕ) : Type 0 where
  pub nodes_made : nodes₁ ≡ flat_nodes F
  pub rows_put : out₁ ≡ sets out 0 (flat_rows F)
  pub ends : end ≡ rows_in F * row_width
