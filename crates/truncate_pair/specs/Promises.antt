-- What `second_rows` gives.
-- Assumes nothing: these are definitions.
use Rattle.std.specs.Prelude.{cond, ℕ, List, ltb, length, get_or, Option, Some, None}

-- the row count at place i, if there is a node
abbrev pub second_rows_at : List ℕ → ℕ → Option ℕ
second_rows_at nodes i = cond (ltb i (length nodes)) (Some (get_or nodes i 0)) None
