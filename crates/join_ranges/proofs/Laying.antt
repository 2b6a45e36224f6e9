-- The ranges of P laid over those of S: one, and one after another.
-- Assumes nothing.
use mathlib.Core.Path.{◌≡◌, refl, sym, ap, ap₂, ◌∙◌}
use mathlib.Core.Logic.{inl, inr}
use mathlib.Core.List.{List, flat_map}
use Prim.Native.Nat.{ℕ, ◌+◌, ◌*◌, ◌≤◌, ◌<◌}
use native.Mathlib.Numerals.{add-one}
use native.Mathlib.Omega.{arith}
use lib.ListN.{length, get_or, take}
use lib.Seq.{sets, take_all}
use Rattle.record.specs.Tree.{Range, Encoding, sequences, absent, shifted}
use Rattle.record.specs.Flat.{range_numbers}
use Rattle.record.specs.WellFormed.{RangeFine}
use Rattle.record.proofs.Flat.{range_stored}
use Rattle.record_write.specs.Writing.{present_range}
use Rattle.join_trees.specs.Join.{choose, join_ranges}
use Rattle.join_trees.proofs.Rows.{chosen}
use Rattle.join_trees.proofs.Fine.{length_join_ranges}
use Rattle.join_trees.proofs.Written.{range_at_lem}
use Rattle.join_view.specs.declared.View.TheVariants.{Plain}
use Rattle.lists.specs.Stretch.{Stretch}
use Rattle.join_ranges.specs.Promises.{ranges_of, RangesAt, NodeAt, AskRange, LaysRange, AskRanges, LaysRanges}
use Rattle.join_view.proofs.InPlace.{element_stands, next_stands, next_written}
use Rattle.lists.proofs.Written.{stands_number, stands_same, stands_first}
use Rattle.lists.proofs.All.{all_at}
use Rattle.join_ranges.proofs.Nodes.{node_ranges}

-- ---- One range

present_there : {nodes : List ℕ} {i : ℕ} (p : Range) → Stretch nodes i (range_numbers p) → get_or nodes i 0 ≡ p.present
unfolding range_numbers
present_there p h = stands_first h

bounds_there : {nodes : List ℕ} {i : ℕ} (p : Range) → Stretch nodes i (range_numbers p) → (get_or nodes (i + 1) 0 ≡ p.start) × (get_or nodes (i + 2) 0 ≡ p.end)
unfolding range_numbers
bounds_there p h = (stands_number h 1 (omega arith), stands_number h 2 (omega arith))

module _ {nodes : List ℕ} {to shift : ℕ} {nodes' : List ℕ} {from : ℕ} where
  -- one that is absent changes nothing
  pub lays_none : get_or nodes' from 0 ≡ 0 → LaysRange nodes to shift nodes' from nodes
  lays_none z =
      record { laid = λ s p hs hp b. sym (ap (λ (k : ℕ). sets nodes to (range_numbers (choose k shift s p))) (sym (present_there p hp) ∙ z) ∙ stands_same hs) }

  -- one that is present is written, shifted
  pub lays_shifted : {nodes₁ : List ℕ} → (get_or nodes' from 0 ≡ 0 → ⊥) → nodes₁ ≡ sets nodes to (range_numbers (present_range (get_or nodes' (from + 1) 0 + shift) (get_or nodes' (from + 2) 0 + shift))) → LaysRange nodes to shift nodes' from nodes₁
  lays_shifted n e =
      record {
        laid = λ s p hs hp b.
            let z : p.present ≡ 0 → ⊥ = λ z. n (present_there p hp ∙ z) in
            let o : p.present ≡ 1 = omega arith in
            let u = bounds_there p hp in
            let same : present_range (get_or nodes' (from + 1) 0 + shift) (get_or nodes' (from + 2) 0 + shift) ≡ shifted shift p = λ i. record { present = sym o i; start = u.0 i + shift; end = u.1 i + shift } in
            e ∙ ap (λ (q : Range). sets nodes to (range_numbers q)) (same ∙ sym (chosen 0 shift s p p.present o));
      }

-- ---- One after another

marks : {n : ℕ} {p : Range} → RangeFine n p → p.present ≤ 1
marks (inl e) = omega (arith, ap (λ (p : Range). p.present) e)
marks (inr (h, f, t)) = omega arith

bounds : {n : ℕ} {p : Range} → RangeFine n p → (p.start ≤ n) × (p.end ≤ n)
bounds (inl e) = (omega (arith, ap (λ (p : Range). p.start) e), omega (arith, ap (λ (p : Range). p.end) e))
bounds (inr (h, f, t)) = (omega arith, omega arith)

-- the ranges of the first k sequences are laid
pub record Laying (shift : ℕ) (before : List ℕ) (at : ℕ) (nodes' : List ℕ) (i : ℕ) (now : List ℕ) (k : ℕ) : Type 0 where
  pub long : length now ≡ length before
  pub laid : (P : Encoding) → NodeAt nodes' i P → (q : List Range) → RangesAt before at q → now ≡ sets before (ranges_of at) (flat_map range_numbers (take k (join_ranges shift q P.ranges)))

pub laying_start : (shift : ℕ) (before : List ℕ) (at : ℕ) (nodes' : List ℕ) (i : ℕ) → Laying shift before at nodes' i before 0
unfolding flat_map
laying_start shift before at nodes' i = record { long = refl; laid = λ P p q h. refl }

module _ {shift : ℕ} {before : List ℕ} {at : ℕ} {nodes' : List ℕ} {i : ℕ} {now : List ℕ} {k : ℕ} (l : Laying shift before at nodes' i now k) where
  joined_long : (P : Encoding) → NodeAt nodes' i P → (q : List Range) → RangesAt before at q → length (join_ranges shift q P.ranges) ≡ sequences
  joined_long P p q h = length_join_ranges shift sequences q P.ranges h.places p.fine.places

  next_fine : (P : Encoding) → NodeAt nodes' i P → k < sequences → RangeFine (length P.rows) (get_or P.ranges k absent)
  next_fine P p b = all_at (RangeFine (length P.rows)) P.ranges k absent (omega (arith, p.fine.places)) p.fine.ranges_fine

  -- the next ones stand at `to` and `from`
  module _ {to from : ℕ} (to_is : to ≡ ranges_of at + k * 3) (from_is : from ≡ ranges_of i + k * 3) (b : k < sequences) where
    next_range : (P : Encoding) → NodeAt nodes' i P → Stretch nodes' from (range_numbers (get_or P.ranges k absent))
    next_range P p = rw from_is (element_stands range_stored nodes' (ranges_of i) P.ranges k absent (node_ranges p).there (omega (arith, p.fine.places)))

    pub laying_asks : AskRanges before at shift nodes' i Plain → AskRange now to shift nodes' from
    laying_asks ask =
        let u = bounds_there (get_or ask.P.ranges k absent) (next_range ask.P ask.there) in
        let f = bounds (next_fine ask.P ask.there b) in
        record {
          fits = omega (arith, l.long, ask.fits);
          inside = omega (arith, ask.there.inside);
          start_within = omega (arith, u.0, f.0, ask.few_rows);
          end_within = omega (arith, u.1, f.1, ask.few_rows);
        }

    pub laying_on : {now' : List ℕ} → length now' ≡ length now → LaysRange now to shift nodes' from now' → Laying shift before at nodes' i now' (k + 1)
    laying_on {now'} n step =
        record {
          long = n ∙ l.long;
          laid = λ P p q h.
              let ys = join_ranges shift q P.ranges in
              let s = get_or q k absent in
              let r = get_or P.ranges k absent in
              let stands : Stretch now to (range_numbers s) = rw (to_is, l.laid P p q h) (next_stands range_stored before (ranges_of at) q ys k absent h.there (joined_long P p q h ∙ sym h.places) (omega (arith, h.places))) in
              step.laid s r stands (next_range P p) (marks (next_fine P p b))
              ∙ ap₂ (λ (j : ℕ) (m : List ℕ). sets m j (range_numbers (choose r.present shift s r))) to_is (l.laid P p q h)
              ∙ ap (λ (c : Range). sets (sets before (ranges_of at) (flat_map range_numbers (take k ys))) (ranges_of at + k * 3) (range_numbers c)) (sym (range_at_lem shift q P.ranges k absent (omega (arith, h.places)) (omega (arith, p.fine.places))))
              ∙ next_written range_stored before (ranges_of at) ys k absent (omega (arith, joined_long P p q h))
              ∙ ap (λ (m : ℕ). sets before (ranges_of at) (flat_map range_numbers (take m ys))) (sym (add-one k));
        }

  pub laying_end : k ≡ sequences → LaysRanges Plain before at shift nodes' i now
  laying_end e =
      record { laid = λ P p. record { made = λ q h. l.laid P p q h ∙ ap (λ (c : List Range). sets before (ranges_of at) (flat_map range_numbers c)) (take_all k (join_ranges shift q P.ranges) (omega (arith, joined_long P p q h))) } }
