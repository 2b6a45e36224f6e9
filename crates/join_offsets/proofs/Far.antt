-- A fold whose offsets are far within: as many times the largest last offset end as it has encodings, and a bound of all
-- offsets, together stay within 32 bits. So no step passes them.
-- Assumes nothing.
use mathlib.Core.Path.{◌≡◌, refl, ap, ◌∙◌}
use mathlib.Core.Bool.{true, ◌&&◌}
use Prim.Native.Nat.{ℕ, ◌+◌, ◌*◌, ◌≤◌}
use native.Mathlib.Omega.{arith}
use native.Mathlib.Nat.{suc-mul, mul-le-mul_right}
use mathlib.Core.List.{List, [], ◌∷◌}
use lib.ListN.{length}
use borrow.Author.Tests.{le-leb}
use Rattle.lists.specs.Lists.{All}
use Rattle.record.specs.Tree.{Row, Forest, none, node, Encoding, listed, forest, empty}
use Rattle.record.specs.WellFormed.{nodes_in}
use Rattle.join_trees.specs.Join.{join}
use Rattle.join_trees.specs.Offsets.{most_offset, join_fits, steps_fit, fold_fits}
use Rattle.join_trees.proofs.Offsets.{OffsetsFit, tells_offsets}
use Rattle.join_reach.specs.Reach.{largest_offset, largest, largest_base}
use Rattle.join_offsets.proofs.Joined.{base_joins, join_fits_growing}

-- an encoding's number is at most the largest of all
each_within : (number : List Row → ℕ) (k : ℕ) (f : Forest) → largest number f ≤ k → All (λ E. largest number (forest (E ∷ [])) ≤ k) (listed f)
unfolding largest
each_within number k none h = tt
each_within number k (node r q w x) h = (omega arith, each_within number k x (omega arith))

-- there are at least as many nodes as encodings
few_tops : (f : Forest) → length (listed f) ≤ nodes_in f
few_tops none = omega arith
few_tops (node r q w x) = omega (arith, few_tops x)

module _ (base bound : ℕ) where
  far_steps : (S : Encoding) (Es : List Encoding) → OffsetsFit (forest (S ∷ [])) → All (λ E. largest_base (forest (E ∷ [])) ≤ base) Es → All (λ E. largest largest_offset (forest (E ∷ [])) ≤ bound) Es → largest_base (forest (S ∷ [])) + length Es * base + bound ≤ most_offset → steps_fit true S Es ≡ true
  unfolding steps_fit
  far_steps S [] fits bs os h = refl
  far_steps S (E ∷ Es) fits (b, bs) (o, os) h =
      let more : length (E ∷ Es) * base ≡ length Es * base + base = suc-mul (length Es) base in
      let yes : join_fits true S E ≡ true = join_fits_growing S E fits ∙ le-leb (largest_base (forest (S ∷ [])) + largest largest_offset (forest (E ∷ []))) most_offset (omega arith) in
      ap (◌&& steps_fit true (join true S E) Es) yes ∙ far_steps (join true S E) Es ((tells_offsets (forest (join true S E ∷ []))).so yes) bs os (omega (arith, base_joins S E))

  pub far_fold : (f : Forest) → largest_base f ≡ base → largest largest_offset f ≤ bound → nodes_in f * base + bound ≤ most_offset → fold_fits true (listed f) ≡ true
  unfolding largest
  far_fold f b o h =
      let less : length (listed f) * base ≤ nodes_in f * base = mul-le-mul_right base (few_tops f) in
      far_steps empty (listed f) (tt, tt, tt) (each_within _ base f (omega arith)) (each_within largest_offset bound f o) (omega arith)
