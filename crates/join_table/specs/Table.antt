-- What each level of a join has, from what the levels of its operands have; and the table by which it is found.
-- Assumes nothing: these are definitions.
use Rattle.std.specs.Prelude.{ℕ, zero, suc, ◌+◌, ◌*◌, ◌/◌, ◌%◌, List, get_or}
use Rattle.record.specs.WellFormed.{most_levels}

-- the top and the levels below it
abbrev pub level_count : ℕ
level_count = suc most_levels

-- the list's values, 0 past its end
abbrev pub at : List ℕ → ℕ → ℕ
at l i = get_or l i 0

-- The sum of the first n values of f.
unfoldable pub sum_below : ℕ → (ℕ → ℕ) → ℕ
sum_below zero f = 0
sum_below (suc n) f = sum_below n f + f n

abbrev pub later : (ℕ → ℕ) → ℕ → ℕ
later u i = u (suc i)

-- What level d of a join has, from what the levels of the two have, as the windows of a join are made: "s with P", "s
-- with each p", "S with each p".
unfoldable pub joined_level : ℕ → (ℕ → ℕ) → (ℕ → ℕ) → ℕ
joined_level zero u v = u 0 * v 0
joined_level (suc d) u v = joined_level d (later u) v + joined_level d (later u) (later v) + joined_level d u (later v)

-- The table: at first, in row i and column j, what level i of S and level j of P give together;
unfoldable pub paired : (ℕ → ℕ) → (ℕ → ℕ) → (ℕ → ℕ) → (ℕ → ℕ) → ℕ → ℕ
paired a b c e k = a (k / level_count) * b (k % level_count) + c (k / level_count) * e (k % level_count)

-- and d levels down the sum of three neighbours, d times over.
unfoldable pub spread : ℕ → (ℕ → ℕ) → ℕ → ℕ
spread zero f k = f k
spread (suc d) f k = spread d f (k + 1) + spread d f (k + level_count) + spread d f (k + suc level_count)
