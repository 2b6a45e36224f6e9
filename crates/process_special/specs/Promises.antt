-- What is asked and given where the rows of a special piece are joined to the encoding in the output.
-- Assumes nothing: these are definitions.
use Rattle.std.specs.Prelude.{false, List, [], ◌∷◌, ℕ, ◌+◌, ◌*◌, ◌/◌, ◌≤◌, length}
use Rattle.record.specs.Tree.{Encoding, forest}
use Rattle.record.specs.Flat.{row_width}
use Rattle.record.specs.WellFormed.{rows_in}
use Rattle.record.specs.Standing.{Here, Put}
use Rattle.record.specs.Outcome.{Room}
use Rattle.join_trees.specs.Join.{join}
use Rattle.template_entries.specs.Table.{member_width}
use Rattle.template_entries.specs.Rows.{special_encoding, members_from}

-- S stands at the front of the output, the members are among those of the table, and the join has room in the output and,
-- its rows, in the working store.
pub record AskSpecial (members : List ℕ) (first count t : ℕ) (out out' working' : List ℕ) : Type 0 where
  pub S : Encoding
  pub here_s : Here out out' 0 0 (forest (S ∷ []))
  pub among : first + count ≤ length members / member_width
  pub room : Room out out' (forest (join false S (special_encoding t (members_from members first count)) ∷ []))
  pub working_fits : rows_in (forest (join false S (special_encoding t (members_from members first count)) ∷ [])) * row_width ≤ length working'

-- Whatever stands there, its join with the special rows was written in its place.
abbrev pub AppendsSpecial : List ℕ → ℕ → ℕ → ℕ → List ℕ → List ℕ → List ℕ → List ℕ → Type 0
AppendsSpecial members first count t out out' out₁ out₁' =
    (S : Encoding) → Here out out' 0 0 (forest (S ∷ [])) → Put (join false S (special_encoding t (members_from members first count)) ∷ []) out 0 out' 0 out₁ out₁'
