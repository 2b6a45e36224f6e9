-- The loop that looks for the longest encoding at the top: of the nodes to come, those of windows that are open come first.
-- Assumes nothing.
use mathlib.Core.Path.{◌≡◌, sym, subst}
use Prim.Native.Nat.{ℕ, ◌+◌, ◌-◌, ◌*◌, ◌≤◌, ◌<◌, max}
use native.Mathlib.Omega.{arith}
use mathlib.Core.List.{List}
use lib.ListN.{length, get_or}
use Rattle.record.specs.Tree.{Forest, none, node, tops}
use Rattle.record.specs.Flat.{node_width}
use Rattle.record.specs.WellFormed.{most_nodes}
use Rattle.pad_length.specs.Target.{longest}
use Rattle.record.specs.Passing.{NodesOf, followed, NodesToCome}
use Rattle.record.proofs.Passing.{followed_assoc, followed_tops, tops_few, nodes_left, coming_size, coming_windows, coming_fits, coming_next, nodes_come}

-- `pending` windows are to come and then encodings at the top; the longest of those passed has `most` rows.
pub record Searching (nodes : List ℕ) (i most pending : ℕ) (f : Forest) : Type 0 where
  pub windows : Forest
  pub after : Forest
  pub coming : NodesToCome nodes i (followed windows after)
  pub counts : tops windows ≡ pending
  pub found : longest f ≡ max most (longest after)

pub searching_start : {nodes : List ℕ} {f : Forest} → NodesOf nodes f → Searching nodes 0 0 0 f
searching_start {nodes} {f} h = record { windows = none; after = f; coming = nodes_come h; counts = omega arith; found = omega arith }

module _ {nodes : List ℕ} {i most pending : ℕ} {f : Forest} (s : Searching nodes i most pending f) where
  pub searching_fits : i < length nodes → i + node_width ≤ length nodes
  searching_fits l = go (followed s.windows s.after) s.coming
    where
      go : (y : Forest) → NodesToCome nodes i y → i + node_width ≤ length nodes
      go none k = absurd (omega (arith, nodes_left k))
      go (node r q w x) k = coming_fits k

  -- no more windows are pending than there may be nodes
  pub searching_pending : length nodes ≤ most_nodes * node_width → pending ≤ most_nodes
  searching_pending l = omega (arith, s.counts, nodes_left s.coming, tops_few (followed s.windows s.after), followed_tops s.windows s.after)

  -- no window is pending: the next node is at the top
  pub searching_top : i < length nodes → pending ≡ 0 → Searching nodes (i + node_width) (max most (get_or nodes i 0)) (get_or nodes (i + 1) 0) f
  searching_top l z = go s.windows s.after s.coming s.counts s.found
    where
      go : (v y : Forest) → NodesToCome nodes i (followed v y) → tops v ≡ pending → longest f ≡ max most (longest y) → Searching nodes (i + node_width) (max most (get_or nodes i 0)) (get_or nodes (i + 1) 0) f
      go (node r q w x) y k c e = absurd (omega arith)
      go none none k c e = absurd (omega (arith, nodes_left k))
      go none (node r q w x) k c e = record { windows = w; after = x; coming = coming_next k; counts = sym (coming_windows k); found = omega (arith, coming_size k) }

  -- the next node is a window
  pub searching_window : i < length nodes → 0 < pending → Searching nodes (i + node_width) most (pending - 1 + get_or nodes (i + 1) 0) f
  searching_window l z = go s.windows s.coming s.counts
    where
      go : (v : Forest) → NodesToCome nodes i (followed v s.after) → tops v ≡ pending → Searching nodes (i + node_width) most (pending - 1 + get_or nodes (i + 1) 0) f
      go none k c = absurd (omega arith)
      go (node r q w x) k c =
          record {
            windows = followed w x;
            after = s.after;
            coming = subst (NodesToCome nodes (i + node_width)) (sym (followed_assoc w x s.after)) (coming_next k);
            counts = omega (arith, coming_windows k, followed_tops w x);
            found = s.found;
          }

  pub searching_end : length nodes < i + node_width → most ≡ longest f
  searching_end l = go s.windows s.after s.coming s.found
    where
      go : (v y : Forest) → NodesToCome nodes i (followed v y) → longest f ≡ max most (longest y) → most ≡ longest f
      go (node r q w x) y k e = absurd (omega (arith, coming_fits k))
      go none (node r q w x) k e = absurd (omega (arith, coming_fits k))
      go none none k e = omega arith
