-- The largest number of some encodings: none has a larger one, and the largest of two sorts together are those of one pair.
-- Assumes nothing.
use Prim.Native.Nat.{ℕ, ◌+◌, ◌-◌, ◌≤◌}
use native.Mathlib.Omega.{arith}
use mathlib.Core.List.{List, [], ◌∷◌}
use Rattle.record.specs.Tree.{Row, Forest, none, node, Encoding, forest}
use Rattle.join_trees.proofs.Each.{Each, each_imp}
use Rattle.join_reach.specs.Reach.{largest}

module _ (number : List Row → ℕ) (k : ℕ) where
  pub largest_le : (f : Forest) → Each (λ r q. number r ≤ k) f → largest number f ≤ k
  unfolding largest
  largest_le none t = omega arith
  largest_le (node r q w x) (n, tw, tx) = omega (arith, largest_le w tw, largest_le x tx)

  pub le_largest : (f : Forest) → largest number f ≤ k → Each (λ r q. number r ≤ k) f
  unfolding largest
  le_largest none h = tt
  le_largest (node r q w x) h = (omega arith, le_largest w (omega arith), le_largest x (omega arith))

-- If every pair stays within k, so do the two largest together: each side has at least one encoding.
module _ (a b : List Row → ℕ) (k : ℕ) (S P : Encoding) where
  -- one of S and the largest of P
  pair_one : (r : List Row) → Each (λ rp qp. a r + b rp ≤ k) (forest (P ∷ [])) → a r + largest b (forest (P ∷ [])) ≤ k
  pair_one r e = omega (arith, e.0, largest_le b (k - a r) (forest (P ∷ [])) (each_imp (λ rp qp l. omega arith) (forest (P ∷ [])) e))

  pub largest_pair : Each (λ r q. Each (λ rp qp. a r + b rp ≤ k) (forest (P ∷ []))) (forest (S ∷ [])) → largest a (forest (S ∷ [])) + largest b (forest (P ∷ [])) ≤ k
  largest_pair h =
      omega (arith, pair_one S.rows h.0, largest_le a (k - largest b (forest (P ∷ []))) (forest (S ∷ [])) (each_imp (λ r q e. omega (arith, pair_one r e)) (forest (S ∷ [])) h))
