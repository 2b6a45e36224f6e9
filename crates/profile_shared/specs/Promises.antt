-- What the search for a row that lies in two ranges gives.
-- Assumes nothing: this is a definition.
use Rattle.std.specs.Prelude.{◌≡◌, true, false, ℕ, ◌≤◌, ◌<◌, List, leb}
use Rattle.record.specs.Tree.{Range}
use Rattle.profile_trees.specs.Rules.{holders}

-- first is the first row that two of the ranges hold, or n, and then none below n is
pub record FirstShared (q : List Range) (n first : ℕ) : Type 0 where
  pub inside : first ≤ n
  pub shared : first < n → leb 2 (holders first q) ≡ true
  pub none_before : (row : ℕ) → row < first → leb 2 (holders row q) ≡ false
