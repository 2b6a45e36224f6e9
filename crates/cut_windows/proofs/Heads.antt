-- A node without ranges, as numbers.
-- Assumes nothing.
use mathlib.Core.Path.{◌≡◌, refl}
use Prim.Native.Nat.{◌*◌}
use Prim.Native.Nat.{◌*◌}
use mathlib.Core.List.{List, [], ◌∷◌, ◌++◌, flat_map, append-nil}
use lib.ListN.{length, replicate}
use Rattle.record.specs.Tree.{Row, Encoding, forest, sequences, absent}
use Rattle.record.specs.Flat.{range_numbers, flat_nodes}
use Rattle.record.proofs.Tree.{listed_forest}
use Rattle.cut_windows.specs.Made.{plain}
use Rattle.cut_windows.specs.Promises.{head}

pub no_ranges : flat_map range_numbers (replicate sequences absent) ≡ replicate (3 * sequences) 0
unfolding flat_map range_numbers
no_ranges = refl

pub flat_plain : (r : List Row) (ws : List Encoding) → flat_nodes (forest (plain r ws ∷ [])) ≡ head (length r) (length ws) ++ flat_nodes (forest ws)
unfolding flat_nodes
flat_plain r ws = rw (listed_forest ws, no_ranges, append-nil)
