-- The range that a view sets, written after the others were laid: so all are the ranges of P as it is seen.
-- Assumes nothing.
use mathlib.Core.Path.{◌≡◌, refl, sym, ap, subst, ◌∙◌}
use mathlib.Core.List.{List, [], ◌∷◌, flat_map}
use Prim.Native.Nat.{ℕ, zero, suc, ◌+◌, ◌*◌, ◌≤◌, ◌<◌}
use native.Mathlib.Nat.{zero-add}
use native.Mathlib.Omega.{arith}
use lib.ListN.{length, get_or, set, length-set}
use lib.Seq.{sets}
use Rattle.record.specs.Tree.{Range, sequences, shifted}
use Rattle.record.specs.Flat.{node_width, range_numbers}
use Rattle.record.proofs.Flat.{length_numbers, range_stored}
use Rattle.record_write.specs.Writing.{present_range}
use Rattle.join_trees.specs.Join.{choose, join_ranges}
use Rattle.join_trees.proofs.Fine.{length_join_ranges}
use Rattle.join_view.specs.declared.View.{View}
use Rattle.join_view.specs.declared.View.TheVariants.{Plain, Window, Piece}
use Rattle.join_view.specs.View.{ranges_seen}
use Rattle.join_ranges.specs.Promises.{ranges_of, RangesAt, whole_laid, MakesRanges, LaysRanges}
use Rattle.join_view.proofs.InPlace.{element_set}
use Rattle.lists.proofs.Written.{stands_same, sets_stand, sets_again}
use Rattle.join_ranges.proofs.Nodes.{node_count_lem}

pub makes_whole : {nodes nodes₁ : List ℕ} {at k : ℕ} (shift count : ℕ) → k < sequences → nodes₁ ≡ sets nodes (ranges_of at + k * 3) (range_numbers (present_range shift (count + shift))) → MakesRanges (λ q. set q k (shifted shift (present_range 0 count))) nodes at nodes₁
makes_whole {nodes} {nodes₁} {at} {k} shift count b e =
    record {
      made = λ q h.
          let same : present_range shift (count + shift) ≡ shifted shift (present_range 0 count) = λ i. record { present = 1; start = sym (zero-add shift) i; end = count + shift } in
          e ∙ ap (λ (p : Range). sets nodes (ranges_of at + k * 3) (range_numbers p)) same ∙ element_set range_stored nodes (ranges_of at) q k (shifted shift (present_range 0 count)) h.there (omega (arith, h.places));
    }

module _ {nodes : List ℕ} {at : ℕ} (v : View) (shift count : ℕ) where
  pub lays_plain : v ≡ Plain → MakesRanges (whole_laid v shift count) nodes at nodes
  lays_plain e = subst (λ (v : View). MakesRanges (whole_laid v shift count) nodes at nodes) (sym e) (record { made = λ q h. sym (stands_same h.there) })

  pub lays_window : {nodes₁ : List ℕ} {k : ℕ} → v ≡ Window k → MakesRanges (λ q. set q k (shifted shift (present_range 0 count))) nodes at nodes₁ → MakesRanges (whole_laid v shift count) nodes at nodes₁
  lays_window {nodes₁} e m = subst (λ (v : View). MakesRanges (whole_laid v shift count) nodes at nodes₁) (sym e) m

  pub lays_piece : {nodes₁ : List ℕ} {k t : ℕ} → v ≡ Piece k t → MakesRanges (λ q. set q k (shifted shift (present_range 0 count))) nodes at nodes₁ → MakesRanges (whole_laid v shift count) nodes at nodes₁
  lays_piece {nodes₁} e m = subst (λ (v : View). MakesRanges (whole_laid v shift count) nodes at nodes₁) (sym e) m

-- setting it after the others is setting it in P
join_set : (n m : ℕ) (q q' : List Range) (k : ℕ) → set (join_ranges n q q') k (shifted n (present_range 0 m)) ≡ join_ranges n q (set q' k (present_range 0 m))
join_set n m [] q' k = refl
join_set n m (s ∷ q) [] k = refl
join_set n m (s ∷ q) (p ∷ q') zero = refl
join_set n m (s ∷ q) (p ∷ q') (suc k) = ap (choose p.present n s p ∷◌) (join_set n m q q' k)

whole_seen : (v : View) (n m : ℕ) (q q' : List Range) → whole_laid v n m (join_ranges n q q') ≡ join_ranges n q (ranges_seen v m q')
whole_seen Plain n m q q' = refl
whole_seen (Window k) n m q q' = join_set n m q q' k
whole_seen (Piece k t) n m q q' = join_set n m q q' k

length_whole : (v : View) (n m : ℕ) (q : List Range) → length (whole_laid v n m q) ≡ length q
length_whole Plain n m q = refl
length_whole (Window k) n m q = length-set q k (shifted n (present_range 0 m))
length_whole (Piece k t) n m q = length-set q k (shifted n (present_range 0 m))

-- so both together are the ranges of P as it is seen
pub lays_seen : {nodes nodes₁ nodes₂ nodes' : List ℕ} {at shift i : ℕ} (v : View) → at + node_width ≤ length nodes → LaysRanges Plain nodes at shift nodes' i nodes₁ → MakesRanges (whole_laid v shift (get_or nodes' i 0)) nodes₁ at nodes₂ → LaysRanges v nodes at shift nodes' i nodes₂
lays_seen {nodes} {nodes₁} {nodes₂} {nodes'} {at} {shift} {i} v fits p m =
    record {
      laid = λ P h. record {
        made = λ q r.
            let ys = join_ranges shift q P.ranges in
            let n = get_or nodes' i 0 in
            let e = (p.laid P h).made q r in
            let long : length ys ≡ sequences = length_join_ranges shift sequences q P.ranges r.places h.fine.places in
            let stands : RangesAt nodes₁ at ys = record { there = rw e (sets_stand nodes (ranges_of at) (flat_map range_numbers ys) (omega (arith, length_numbers range_stored ys))); places = long } in
            let zs = whole_laid v shift n ys in
            m.made ys stands
            ∙ ap (λ (l : List ℕ). sets l (ranges_of at) (flat_map range_numbers zs)) e
            ∙ sets_again nodes (ranges_of at) (flat_map range_numbers ys) (flat_map range_numbers zs) (omega (arith, length_numbers range_stored ys, length_numbers range_stored zs, length_whole v shift n ys)) (omega (arith, length_numbers range_stored zs, length_whole v shift n ys))
            ∙ ap (λ (c : List Range). sets nodes (ranges_of at) (flat_map range_numbers c)) (whole_seen v shift n q P.ranges ∙ ap (λ (n : ℕ). join_ranges shift q (ranges_seen v n P.ranges)) (node_count_lem h));
      };
    }
