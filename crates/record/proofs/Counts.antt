-- How many nodes and rows encodings hold that stand side by side.
-- Assumes nothing.
use mathlib.Core.Path.{◌≡◌}
use mathlib.Core.List.{List, [], ◌∷◌, ◌++◌}
use Prim.Native.Nat.{◌+◌, ◌≤◌}
use native.Mathlib.Omega.{arith}
use Rattle.record.specs.Tree.{Forest, none, node, Encoding, forest, tops}
use Rattle.record.specs.WellFormed.{nodes_in, rows_in}

pub tops_few : (f : Forest) → tops f ≤ nodes_in f
tops_few none = omega arith
tops_few (node r q w x) = omega (arith, tops_few x)

pub nodes_append : (xs ys : List Encoding) → nodes_in (forest (xs ++ ys)) ≡ nodes_in (forest xs) + nodes_in (forest ys)
nodes_append [] ys = omega arith
nodes_append (E ∷ xs) ys = omega (arith, nodes_append xs ys)

pub rows_append : (xs ys : List Encoding) → rows_in (forest (xs ++ ys)) ≡ rows_in (forest xs) + rows_in (forest ys)
rows_append [] ys = omega arith
rows_append (E ∷ xs) ys = omega (arith, rows_append xs ys)
