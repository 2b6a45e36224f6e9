-- What is counted of a batch: of rows one after another, of nodes those at the top and those below.
-- Assumes nothing.
use mathlib.Core.Path.{◌≡◌, refl}
use mathlib.Core.Bool.{Bool}
use Prim.Native.Nat.{◌+◌}
use native.Mathlib.Omega.{arith}
use mathlib.Core.List.{List, [], ◌∷◌, ◌++◌}
use Rattle.record.specs.Tree.{Row, Forest, none, node, tops}
use Rattle.record.specs.WellFormed.{nodes_in}
use Rattle.report_trees.specs.Counts.{windows_in, one, how_many}

pub many_append : (such : Row → Bool) (s t : List Row) → how_many such (s ++ t) ≡ how_many such s + how_many such t
unfolding how_many
many_append such [] t = omega arith
many_append such (r ∷ s) t = omega (arith, many_append such s t)

pub many_one : (such : Row → Bool) (r : Row) → how_many such (r ∷ []) ≡ one (such r)
unfolding how_many
many_one such r = omega arith

-- every node is at the top or below it
pub nodes_tops : (f : Forest) → nodes_in f ≡ tops f + windows_in f
nodes_tops none = refl
nodes_tops (node r q w x) = omega (arith, nodes_tops x)
