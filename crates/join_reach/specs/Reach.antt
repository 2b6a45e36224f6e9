-- How far the offsets of encodings reach: the two numbers that decide refusal 6 of join and fold. A join moves the offsets
-- of each encoding of the second operand on by the last offset end of each encoding of the first.
-- Assumes nothing: these are definitions.
use Rattle.std.specs.Prelude.{ℕ, max, List, [], ◌∷◌}
use Rattle.record.specs.Tree.{Row, Forest, none, node}
use Rattle.join_trees.specs.Join.{last_end}

-- The largest offset of some rows, start or end; 0 without rows.
unfoldable pub largest_offset : List Row → ℕ
largest_offset [] = 0
largest_offset (r ∷ rs) = max (max r.offset_start r.offset_end) (largest_offset rs)

-- The largest of a number of each encoding's rows, windows included.
unfoldable pub largest : (List Row → ℕ) → Forest → ℕ
largest number none = 0
largest number (node r q w x) = max (number r) (max (largest number w) (largest number x))

-- The largest last offset end; an encoding without rows counts as 0.
abbrev pub largest_base : Forest → ℕ
largest_base f = largest (last_end 0) f
