-- Where a node's rows stand.
-- Assumes nothing: this is a definition.
use Rattle.std.specs.Prelude.{ℕ, zero, suc, ◌+◌, ◌*◌, List, get_or}
use Rattle.record.specs.Flat.{node_width}

-- the row counts of the first n nodes, added up
unfoldable pub rows_before : List ℕ → ℕ → ℕ
rows_before nodes zero = 0
rows_before nodes (suc n) = rows_before nodes n + get_or nodes (n * node_width) 0
