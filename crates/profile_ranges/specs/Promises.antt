-- What is said of the rows of a node from a row on.
-- Assumes nothing: these are definitions.
use Rattle.std.specs.Prelude.{◌≡◌, ◌⊎◌, true, false, ℕ, ◌≤◌, ◌<◌, List, get_or}
use Rattle.record.specs.Tree.{Range, absent}
use Rattle.lookup_ranges.specs.Ranges.{present}
use Rattle.lookup_holding.specs.Holding.{holds_row}
use Rattle.profile_trees.specs.Rules.{holders}
use Rattle.profile_ranges.specs.declared.RowStretch.{RowStretch}

-- the rows from this one on up to the stretch's end, of n rows
pub record RowStretched (q : List Range) (n row : ℕ) (s : RowStretch) : Type 0 where
  pub further : row < s.end
  -- no further than the rows go, if no range does
  pub within : ((id : ℕ) → (get_or q id absent).end ≤ n) → s.end ≤ n
  -- where words are looked at: there are no ranges, and these are all rows that are left; or the stretch ends with a range that
  -- holds the row
  pub looked : s.words ≡ true → ((present q ≡ 0) × (s.end ≡ n)) ⊎ ((id : ℕ) × (holds_row row (get_or q id absent) ≡ true) × ((get_or q id absent).end ≡ s.end))
  -- where not: there are ranges, and none holds any of the rows
  pub passed : s.words ≡ false → (present q ≡ 0 → ⊥) × ((k : ℕ) → row ≤ k → k < s.end → holders k q ≡ 0)
