-- The loop that adds up the rows: those of the nodes passed, and of those to come, make up the whole.
-- Assumes nothing.
use mathlib.Core.Path.{◌≡◌}
use Prim.Native.Nat.{ℕ, ◌+◌, ◌≤◌, ◌<◌, max}
use native.Mathlib.Omega.{arith}
use mathlib.Core.List.{List}
use lib.ListN.{length, get_or}
use Rattle.record.specs.Tree.{Forest, none, node}
use Rattle.record.specs.Flat.{node_width}
use Rattle.pad_length.specs.Target.{rows_with}
use Rattle.record.specs.Passing.{NodesOf, followed, NodesToCome}
use Rattle.record.proofs.Passing.{nodes_come, nodes_left, coming_size, coming_fits, coming_next}

-- one batch after another: the rows add up
pub followed_rows_with : (target : ℕ) (f y : Forest) → rows_with target (followed f y) ≡ rows_with target f + rows_with target y
followed_rows_with target none y = omega arith
followed_rows_with target (node r q w x) y = omega (arith, followed_rows_with target x y)

pub record Summing (nodes : List ℕ) (target i total : ℕ) (f : Forest) : Type 0 where
  pub to_come : Forest
  pub coming : NodesToCome nodes i to_come
  pub adds_up : rows_with target f ≡ total + rows_with target to_come

pub summing_start : {nodes : List ℕ} (target : ℕ) {f : Forest} → NodesOf nodes f → Summing nodes target 0 0 f
summing_start target {f} h = record { to_come = f; coming = nodes_come h; adds_up = omega arith }

module _ {nodes : List ℕ} {target i total : ℕ} {f : Forest} (s : Summing nodes target i total f) where
  pub summing_fits : i < length nodes → i + node_width ≤ length nodes
  summing_fits l = go s.to_come s.coming
    where
      go : (y : Forest) → NodesToCome nodes i y → i + node_width ≤ length nodes
      go none k = absurd (omega (arith, nodes_left k))
      go (node r q w x) k = coming_fits k

  pub summing_turn : i < length nodes → Summing nodes target (i + node_width) (total + max (get_or nodes i 0) target) f
  summing_turn l = go s.to_come s.coming s.adds_up
    where
      go : (y : Forest) → NodesToCome nodes i y → rows_with target f ≡ total + rows_with target y → Summing nodes target (i + node_width) (total + max (get_or nodes i 0) target) f
      go none k e = absurd (omega (arith, nodes_left k))
      go (node r q w x) k e = record { to_come = followed w x; coming = coming_next k; adds_up = omega (arith, coming_size k, followed_rows_with target w x) }

  pub summing_end : length nodes < i + node_width → total ≡ rows_with target f
  summing_end l = go s.to_come s.coming s.adds_up
    where
      go : (y : Forest) → NodesToCome nodes i y → rows_with target f ≡ total + rows_with target y → total ≡ rows_with target f
      go none k e = omega arith
      go (node r q w x) k e = absurd (omega (arith, coming_fits k))
