-- A join of fine encodings is fine: marks, pools, places, and ranges within the rows. So within the limits it is
-- well-formed.
-- Assumes nothing.
use mathlib.Core.Path.{◌≡◌, refl, ap}
use mathlib.Core.Bool.{Bool}
use mathlib.Core.Logic.{inl, inr}
use mathlib.Core.List.{List, [], ◌∷◌}
use Prim.Native.Nat.{ℕ, zero, suc, ◌+◌, ◌≤◌}
use native.Mathlib.Omega.{arith}
use lib.ListN.{length, replicate}
use Rattle.record.specs.Tree.{Row, Range, Forest, none, node, Encoding, forest, empty, absent, sequences}
use Rattle.lists.specs.Lists.{All}
use Rattle.record.specs.WellFormed.{RangeFine, RowFine, NodeFine, Fine, Fits, WellFormed}
use Rattle.lists.proofs.All.{all_append, all_map}
use Rattle.join_trees.specs.Join.{moved, base, join_rows, choose, join_ranges, join}
use Rattle.join_trees.proofs.Rows.{chosen, length_join_rows}
use Rattle.join_trees.proofs.Each.{Each, join_each}

-- ---- One node

range_more : (m n : ℕ) → m ≤ n → (p : Range) → RangeFine m p → RangeFine n p
range_more m n l p (inl e) = inl e
range_more m n l p (inr (h, f, t)) = inr (h, f, omega arith)

choose_fine : (m n k : ℕ) (s p : Range) → k ≡ m + n → RangeFine m s → RangeFine n p → RangeFine k (choose p.present m s p)
choose_fine m n k s p e fs (inl a) = rw a (range_more m k (omega arith) s fs)
choose_fine m n k s p e fs (inr (h, f, t)) = rw (chosen 0 m s p p.present h) (inr (h, omega arith, omega arith))

joined_ranges_fine : (m n k : ℕ) (ss ps : List Range) → k ≡ m + n → All (RangeFine m) ss → All (RangeFine n) ps → All (RangeFine k) (join_ranges m ss ps)
joined_ranges_fine m n k [] ps e u v = tt
joined_ranges_fine m n k (s ∷ ss) [] e u v = tt
joined_ranges_fine m n k (s ∷ ss) (p ∷ ps) e (u, us) (v, vs) = (choose_fine m n k s p e u v, joined_ranges_fine m n k ss ps e us vs)

pub length_join_ranges : (m k : ℕ) (ss ps : List Range) → length ss ≡ k → length ps ≡ k → length (join_ranges m ss ps) ≡ k
length_join_ranges m k [] ps e o = e
length_join_ranges m k (s ∷ ss) [] e o = o
length_join_ranges m zero (s ∷ ss) (p ∷ ps) e o = absurd (omega arith)
length_join_ranges m (suc k) (s ∷ ss) (p ∷ ps) e o = ap suc (length_join_ranges m k ss ps (omega arith) (omega arith))

pub node_fine : (g : Bool) (rs : List Row) (qs : List Range) (rp : List Row) (qp : List Range) → NodeFine rs qs → NodeFine rp qp → NodeFine (join_rows g rs rp) (join_ranges (length rs) qs qp)
node_fine g rs qs rp qp s p =
    record {
      places = length_join_ranges (length rs) sequences qs qp s.places p.places;
      ranges_fine = joined_ranges_fine (length rs) (length rp) _ qs qp (length_join_rows g rs rp) s.ranges_fine p.ranges_fine;
      rows_fine = all_append RowFine rs _ s.rows_fine (all_map RowFine RowFine (moved (base g rs)) rp (λ r h. h) p.rows_fine);
    }

-- ---- Every node

each_of : (f : Forest) → Fine f → Each NodeFine f
each_of none t = tt
each_of (node r q w x) (n, tw, tx) = (n, each_of w tw, each_of x tx)

fine_of : (f : Forest) → Each NodeFine f → Fine f
fine_of none t = tt
fine_of (node r q w x) (n, tw, tx) = (n, fine_of w tw, fine_of x tx)

pub empty_fine : Fine (forest (empty ∷ []))
empty_fine = (record { places = refl; ranges_fine = every sequences; rows_fine = tt }, tt, tt)
  where
    every : (k : ℕ) → All (RangeFine 0) (replicate k absent)
    every zero = tt
    every (suc k) = (inl refl, every k)

module _ (g : Bool) where
  pub join_fine : (S P : Encoding) → Fine (forest (S ∷ [])) → Fine (forest (P ∷ [])) → Fine (forest (join g S P ∷ []))
  join_fine S P s p = fine_of (forest (join g S P ∷ [])) (join_each g NodeFine NodeFine NodeFine (node_fine g) S P (each_of (forest (S ∷ [])) s) (each_of (forest (P ∷ [])) p))

  -- ---- Within the limits

  pub join_well : (S P : Encoding) → WellFormed (forest (S ∷ [])) → WellFormed (forest (P ∷ [])) → Fits (forest (join g S P ∷ [])) → WellFormed (forest (join g S P ∷ []))
  join_well S P s p h = record { fine = join_fine S P s.fine p.fine; fits = h }
