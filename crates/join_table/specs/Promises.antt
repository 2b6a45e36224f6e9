-- What the functions ask and give that fill and read the table.
-- Assumes nothing: these are definitions.
use Rattle.std.specs.Prelude.{◌≡◌, List, ℕ, ◌≤◌, ◌<◌}
use Rattle.record.specs.WellFormed.{most_nodes, most_rows}
use Rattle.join_table.specs.Table.{at}

-- Each within the limits, so that no sum wraps.
pub record Small4 (a b c e : ℕ → ℕ) : Type 0 where
  pub fst : (i : ℕ) → a i ≤ most_rows
  pub snd : (i : ℕ) → b i ≤ most_nodes
  pub trd : (i : ℕ) → c i ≤ most_nodes
  pub fth : (i : ℕ) → e i ≤ most_rows

-- l has f's values up to m, and 0 beyond.
pub record Has (l : List ℕ) (m : ℕ) (f : ℕ → ℕ) : Type 0 where
  pub upto : (d : ℕ) → d ≤ m → at l d ≡ f d
  pub beyond : (d : ℕ) → m < d → at l d ≡ 0
