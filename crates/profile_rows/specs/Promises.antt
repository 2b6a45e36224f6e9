-- What the pass over the rows of a stretch gives.
-- Assumes nothing: these are definitions.
use Rattle.std.specs.Prelude.{◌≡◌, Bool, ◌&&◌, ℕ, ◌-◌, ◌≤◌, List, length}
use Rattle.std.proofs.Math.Option.{Option}
use Rattle.record.specs.Standing.{RowsAt}
use Rattle.record.specs.declared.Bounds.{Bounds}
use Rattle.profile_trees.specs.Rules.{BatchNode, Rule, falls_from}
use Rattle.profile_trees.specs.Profile.{rows_from, first_break}
use Rattle.profile_trees.specs.Promises.{held, better, row_rules}
use Rattle.profile_trees.specs.declared.Break.{Break}

-- the sixth rule in a stretch: from its start on, where words are looked at
abbrev pub falls_there : Bool → ℕ → Rule
falls_there words start N row = words && falls_from start N row

-- the first break of the rows of a stretch, whichever node they are of, or what was found before unless it goes after that
abbrev pub Checked : List ℕ → ℕ → Bounds → Bool → ℕ → Break → Break → Type 0
Checked rows first stretch words number best r = (N : BatchNode) (before : Option Break) → RowsAt rows first N.encoding.rows → stretch.end ≤ length N.encoding.rows
    → best ≡ held before
    → r ≡ held (better before (first_break (row_rules (falls_there words stretch.start)) (rows_from number N stretch.start (stretch.end - stretch.start))))
