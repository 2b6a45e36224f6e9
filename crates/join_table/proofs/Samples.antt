-- Two encodings of 128 rows with 8 windows of 128 rows each: their join has 209 nodes and 53,504 rows.
-- Assumes nothing.
use mathlib.Core.Path.{◌≡◌, refl}
use mathlib.Core.List.{List, [], ◌∷◌}
use Prim.Native.Nat.{ℕ, ◌+◌}
use Rattle.join_table.specs.Table.{at, sum_below, joined_level}

nodes : List ℕ
nodes = 1 ∷ 8 ∷ []

rows : List ℕ
rows = 128 ∷ 1024 ∷ []

eight_windows : sum_below 3 (λ d. joined_level d (at nodes) (at nodes)) ≡ 209
unfolding nodes sum_below joined_level
eight_windows = refl

eight_windows_rows : sum_below 3 (λ d. joined_level d (at rows) (at nodes) + joined_level d (at nodes) (at rows)) ≡ 53504
unfolding nodes rows sum_below joined_level
eight_windows_rows = refl
