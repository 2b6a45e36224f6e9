-- What `size_after` asks.
-- Assumes nothing: these are definitions.
use Rattle.std.specs.Prelude.{ℕ, suc, ◌≤◌}
use Rattle.record.specs.WellFormed.{most_nodes, most_rows, most_levels}
use Rattle.record_extent.specs.declared.Extent.{Extent}

-- what a batch may hold
pub record Fitting (n : ℕ) (own : Extent) : Type 0 where
  pub few_own : n ≤ most_rows
  pub few_nodes : own.nodes ≤ most_nodes
  pub few_levels : own.levels ≤ suc most_levels
