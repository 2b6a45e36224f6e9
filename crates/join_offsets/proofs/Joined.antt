-- The offsets of a join that grows: the last offset ends of its operands add up, and it stays within 32 bits exactly if the
-- largest last offset end of S and the largest offset of P together do.
-- Assumes nothing.
use mathlib.Core.Path.{◌≡◌}
use mathlib.Core.Bool.{true}
use Prim.Native.Nat.{ℕ, ◌+◌, ◌≤◌}
use native.Mathlib.Omega.{arith}
use mathlib.Core.List.{List, [], ◌∷◌}
use lib.Dec.{leb}
use lib.ListN.{length}
use Rattle.record.specs.Tree.{Row, Range, Forest, none, node, Encoding, forest}
use Rattle.lists.specs.Lists.{All}
use Rattle.record.proofs.WellFormed.{tells_le, tells_same}
use Rattle.join_trees.specs.Join.{last_end, join_rows, join_ranges, join}
use Rattle.join_trees.specs.Offsets.{most_offset, join_fits, MovedWithin}
use Rattle.join_trees.proofs.Rows.{base_join}
use Rattle.join_trees.proofs.Each.{Each, each_imp, join_each, join_pairs}
use Rattle.join_trees.proofs.Offsets.{RowFits, RowsFit, OffsetsFit, tells_offsets, rows_fit, rows_fit_left, rows_fit_right}
use Rattle.join_reach.specs.Reach.{largest_offset, largest, largest_base}
use Rattle.join_offsets.proofs.Largest.{largest_le, le_largest, largest_pair}

-- ---- The rows of one encoding

-- those of P, moved on by n
moved_within : (n : ℕ) (ps : List Row) → largest_offset ps + n ≤ most_offset → MovedWithin n ps
unfolding largest_offset
moved_within n [] h = tt
moved_within n (p ∷ ps) h = ((omega arith, omega arith), moved_within n ps (omega arith))

within_moved : (n : ℕ) (ps : List Row) → n ≤ most_offset → MovedWithin n ps → largest_offset ps + n ≤ most_offset
unfolding largest_offset
within_moved n [] l u = omega arith
within_moved n (p ∷ ps) l (u, us) = omega (arith, u.0, u.1, within_moved n ps l us)

last_end_fits : (n : ℕ) (rs : List Row) → n ≤ most_offset → All RowFits rs → last_end n rs ≤ most_offset
last_end_fits n [] l u = l
last_end_fits n (r ∷ rs) l (u, us) = last_end_fits r.offset_end rs u.1 us

-- ---- From the encodings of the join to the two largest numbers

module _ (M : List Row → List Range → Type 0) (a b : List Row → ℕ) (k : ℕ) (back : (r : List Row) (q : List Range) (rp : List Row) (qp : List Range) → M (join_rows true r rp) (join_ranges (length r) q qp) → a r + b rp ≤ k) where
  joined_within : (S P : Encoding) → Each M (forest (join true S P ∷ [])) → largest a (forest (S ∷ [])) + largest b (forest (P ∷ [])) ≤ k
  joined_within S P h =
      largest_pair a b k S P
      (each_imp (λ r q. each_imp (λ rp qp. back r q rp qp) (forest (P ∷ []))) (forest (S ∷ [])) (join_pairs true M S P h))

-- ---- The largest last offset end

pub base_fits : (f : Forest) → OffsetsFit f → largest_base f ≤ most_offset
base_fits f h = largest_le (last_end 0) most_offset f (each_imp (λ r q u. last_end_fits 0 r (omega arith) u) f h)

pub base_joins : (S P : Encoding) → largest_base (forest (join true S P ∷ [])) ≡ largest_base (forest (S ∷ [])) + largest_base (forest (P ∷ []))
base_joins S P = omega (arith, no_more _ _ (own S) (own P), no_less _ (own (join true S P)))
  where
    Within : ℕ → Encoding → Type 0
    Within k E = Each (λ r q. last_end 0 r ≤ k) (forest (E ∷ []))

    own : (E : Encoding) → Within (largest_base (forest (E ∷ []))) E
    own E = le_largest (last_end 0) _ (forest (E ∷ [])) (omega arith)

    no_more : (s p : ℕ) → Within s S → Within p P → largest_base (forest (join true S P ∷ [])) ≤ s + p
    no_more s p hs hp = largest_le (last_end 0) (s + p) (forest (join true S P ∷ [])) (join_each true _ _ (λ r q. last_end 0 r ≤ s + p) (λ r q rp qp a b. omega (arith, base_join true r rp)) S P hs hp)

    no_less : (k : ℕ) → Within k (join true S P) → largest_base (forest (S ∷ [])) + largest_base (forest (P ∷ [])) ≤ k
    no_less k h = joined_within (λ r q. last_end 0 r ≤ k) (last_end 0) (last_end 0) k (λ r q rp qp l. omega (arith, base_join true r rp)) S P h

-- ---- Whether the join stays within

each_both : (N N' : List Row → List Range → Type 0) (f : Forest) → Each N f → Each N' f → Each (λ r q. N r q × N' r q) f
each_both N N' none t u = tt
each_both N N' (node r q w x) (n, tw, tx) (m, uw, ux) = ((n, m), each_both N N' w tw uw, each_both N N' x tx ux)

module _ (S P : Encoding) where
  fits_within : OffsetsFit (forest (join true S P ∷ [])) → largest_base (forest (S ∷ [])) + largest largest_offset (forest (P ∷ [])) ≤ most_offset
  fits_within =
      joined_within RowsFit (last_end 0) largest_offset most_offset
      (λ r q rp qp h. omega (arith, within_moved (last_end 0 r) rp (last_end_fits 0 r (omega arith) (rows_fit_left true r rp h)) (rows_fit_right true r rp h))) S P

  within_fits : (s p : ℕ) → s + p ≤ most_offset → Each (λ r q. All RowFits r × (last_end 0 r ≤ s)) (forest (S ∷ [])) → Each (λ r q. largest_offset r ≤ p) (forest (P ∷ [])) → OffsetsFit (forest (join true S P ∷ []))
  within_fits s p l = join_each true _ _ RowsFit (λ r q rp qp (u, a) b. rows_fit true r rp u (moved_within (last_end 0 r) rp (omega arith))) S P

  pub join_fits_growing : OffsetsFit (forest (S ∷ [])) → join_fits true S P ≡ leb (largest_base (forest (S ∷ [])) + largest largest_offset (forest (P ∷ []))) most_offset
  join_fits_growing fits =
      let s = largest_base (forest (S ∷ [])) in
      let p = largest largest_offset (forest (P ∷ [])) in
      let told = tells_offsets (forest (join true S P ∷ [])) in
      tells_same
      (record {
        so = λ e. fits_within (told.so e);
        back = λ l. told.back (within_fits s p l (each_both RowsFit (λ r q. last_end 0 r ≤ s) (forest (S ∷ [])) fits (le_largest (last_end 0) s (forest (S ∷ [])) (omega arith))) (le_largest largest_offset p (forest (P ∷ [])) (omega arith)));
      })
      (tells_le (s + p) most_offset)
