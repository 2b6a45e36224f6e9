-- A range of a node replaced: three numbers change, and nothing else.
-- Assumes nothing.
use mathlib.Core.Path.{◌≡◌, ap, ◌∙◌}
use Prim.Native.Nat.{ℕ, suc, ◌+◌, ◌*◌, ◌≤◌, ◌<◌}
use native.Mathlib.Omega.{arith}
use mathlib.Core.List.{List, ◌∷◌, ◌++◌, flat_map}
use lib.ListN.{length, set, length-set}
use lib.Seq.{sets}
use Rattle.record.specs.Tree.{Row, Range, Forest, node, tops}
use Rattle.record.specs.Flat.{range_numbers, flat_nodes}
use Rattle.record.specs.WellFormed.{RangeFine, NodeFine}
use Rattle.record.proofs.Flat.{length_numbers, range_stored}
use Rattle.lists.proofs.Writing.{sets_cons, sets_left}
use Rattle.record_write.proofs.Runs.{numbers_set}
use Rattle.lists.proofs.All.{all_set}

pub node_fine_set : {r : List Row} {q : List Range} (k : ℕ) (p : Range) → NodeFine r q → RangeFine (length r) p → NodeFine r (set q k p)
node_fine_set {r} {q} k p n f =
    record { places = length-set q k p ∙ n.places; ranges_fine = all_set (RangeFine (length r)) q k p n.ranges_fine f; rows_fine = n.rows_fine }

module _ (r : List Row) (q : List Range) (w x : Forest) (k : ℕ) (p : Range) (h : k < length q) where
  within : k * 3 + length (range_numbers p) ≤ length (flat_map range_numbers q)
  within = omega (arith, length_numbers range_stored q, range_stored.long p)

  -- of the node at the front
  pub node_set : sets (flat_nodes (node r q w x)) (2 + k * 3) (range_numbers p) ≡ flat_nodes (node r (set q k p) w x)
  unfolding flat_nodes
  node_set =
      let e : 2 + k * 3 ≡ suc (suc (k * 3)) = omega arith in
      let rest = flat_nodes w ++ flat_nodes x in
      ap (λ (i : ℕ). sets (flat_nodes (node r q w x)) i (range_numbers p)) e
      ∙ sets_cons (length r) (tops w ∷ (flat_map range_numbers q ++ rest)) (suc (k * 3)) (range_numbers p)
      ∙ ap (length r ∷◌) (sets_cons (tops w) (flat_map range_numbers q ++ rest) (k * 3) (range_numbers p)
      ∙ ap (tops w ∷◌) (sets_left (flat_map range_numbers q) rest (k * 3) (range_numbers p) within
      ∙ ap (◌++ rest) (numbers_set range_stored q k p h)))
