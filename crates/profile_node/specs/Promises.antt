-- What the check of one node asks and gives.
-- Assumes nothing: these are definitions.
use Rattle.std.specs.Prelude.{◌≡◌, ◌⊎◌, cond, ℕ, ◌+◌, ◌*◌, ◌≤◌, List, ltb, length, get_or}
use Rattle.std.proofs.Math.Option.{Option, none as nothing, some}
use Rattle.record.specs.Flat.{row_width, node_width}
use Rattle.record.specs.WellFormed.{NodeFine}
use Rattle.record.specs.Standing.{RowsAt}
use Rattle.record.specs.Passing.{ranges_at}
use Rattle.profile_trees.specs.Rules.{BatchNode, rules, has_windows, word_falls, holders}
use Rattle.profile_trees.specs.Profile.{rows_from, rows_of_node, first_row, first_break}
use Rattle.profile_trees.specs.Promises.{no_rule, held, better, row_rules, LowerBroken}
use Rattle.profile_trees.specs.declared.Break.{Break}

-- The node N stands at i, and its rows at `first`.
pub record NodeStands (nodes : List ℕ) (i : ℕ) (rows : List ℕ) (first : ℕ) (N : BatchNode) : Type 0 where
  pub fits : i + node_width ≤ length nodes
  pub size : get_or nodes i 0 ≡ length N.encoding.rows
  pub ranges_are : ranges_at nodes i ≡ N.encoding.ranges
  pub fine : NodeFine N.encoding.rows N.encoding.ranges
  pub own : RowsAt rows first N.encoding.rows
  pub rows_fit : first + length N.encoding.rows * row_width ≤ length rows

-- Some node does, and what was found before is a break of a rule, or none.
pub record NodeThere (nodes : List ℕ) (i : ℕ) (rows : List ℕ) (first : ℕ) (best : Break) : Type 0 where
  pub N : BatchNode
  pub at : NodeStands nodes i rows first N
  pub known : best.rule ≤ no_rule

-- ---- The fifth rule

-- the break of the fifth rule at a row before `count`, or none
abbrev pub shared_break : ℕ → ℕ → ℕ → Option Break
shared_break number shared count = cond (ltb shared count) (some (record { rule = 5; node = number; row = shared })) nothing

-- what was found before, or this unless it goes after that
abbrev pub SharedFound : ℕ → ℕ → ℕ → Break → Break → Type 0
SharedFound number shared count best r = (before : Option Break) → best ≡ held before → r ≡ held (better before (shared_break number shared count))

-- no row lies in two ranges of the node
abbrev pub Apart : BatchNode → Type 0
Apart N = (row : ℕ) → holders row N.encoding.ranges ≤ 1

-- ---- The rules on rows: those of a node in which no row lies in two ranges, unless a lower rule than the sixth is broken

abbrev pub RowsFound : List ℕ → ℕ → List ℕ → ℕ → ℕ → Break → Break → Type 0
RowsFound nodes i rows first number best r = (N : BatchNode) (before : Option Break) → NodeStands nodes i rows first N → best ≡ held before → LowerBroken before ⊎ Apart N
    → r ≡ held (better before (first_break (row_rules word_falls) (rows_from number N 0 (length N.encoding.rows))))

-- ---- All rules of a node that does not break the first

abbrev pub NodeFound : List ℕ → ℕ → List ℕ → ℕ → ℕ → Break → Break → Type 0
NodeFound nodes i rows first number best r = (N : BatchNode) (before : Option Break) → NodeStands nodes i rows first N → best ≡ held before → first_row has_windows (rows_of_node number N) ≡ nothing
    → r ≡ held (better before (first_break rules (rows_of_node number N)))
