-- The steps by which a template is applied: its pieces in numbers, each special id replaced by the number of its entry.
-- Assumes nothing: these are definitions.
use Rattle.std.specs.Prelude.{cond, List, [], ◌∷◌, ℕ, ◌+◌, eqb, get_or}
use Rattle.std.proofs.Math.Option.{Option, none as nothing, some}
use Rattle.record.specs.Tree.{Encoding, empty}
use Rattle.template_entries.specs.Rows.{special_encoding, entry_members}
use Rattle.join_view.specs.declared.View.TheVariants.{Piece as PieceView}
use Rattle.join_view.specs.View.{seen}
use Rattle.process_steps.specs.declared.Step.{Step}
use Rattle.process_steps.specs.declared.Step.TheVariants.{First, Second, Special}

-- ---- Steps in numbers

-- as a piece: "kind (0 A, 1 B, 2 special), type", and then the number of an entry of the special table
abbrev pub step_numbers : Step → List ℕ
step_numbers (First t) = 0 ∷ t ∷ 0 ∷ 0 ∷ []
step_numbers (Second t) = 1 ∷ t ∷ 0 ∷ 0 ∷ []
step_numbers (Special t entry) = 2 ∷ t ∷ entry ∷ 0 ∷ []

-- the step whose numbers begin at a place
unfoldable pub step_at : List ℕ → ℕ → Step
step_at l at = cond (eqb (get_or l at 0) 0) (First (get_or l (at + 1) 0)) (cond (eqb (get_or l at 0) 1) (Second (get_or l (at + 1) 0)) (Special (get_or l (at + 1) 0) (get_or l (at + 2) 0)))

-- ---- What a step joins

abbrev pub second_or : Option Encoding → Encoding
second_or nothing = empty
second_or (some F) = F

-- of the entries and the members of a table, the first encoding and the second, if there is one
abbrev pub step_encoding : List ℕ → List ℕ → Encoding → Option Encoding → Step → Encoding
step_encoding entries members E second (First t) = seen (PieceView 0 t) E
step_encoding entries members E second (Second t) = seen (PieceView 1 t) (second_or second)
step_encoding entries members E second (Special t entry) = special_encoding t (entry_members entries members entry)
