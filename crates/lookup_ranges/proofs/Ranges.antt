-- The ranges of the top node by their places in the slice, and one step of the walks over them.
-- Assumes nothing.
use mathlib.Core.Path.{◌≡◌, refl, sym, ap, ◌∙◌}
use mathlib.Core.Logic.{◌⊎◌, inl, inr, ⊎_elim}
use mathlib.Core.Bool.{Bool, true, false}
use Prim.Native.Nat.{ℕ, ◌+◌, ◌*◌, ◌≤◌, ◌<◌, max}
use native.Mathlib.Numerals.{add-one}
use native.Mathlib.Omega.{arith}
use mathlib.Core.List.{List}
use lib.Dec.{ltb, eqb}
use lib.ListN.{length, get_or, drop, get_or-eq_default, drop_of_length-le}
use lib.Seq.{drop-cons}
use borrow.Author.Tests.{eq-eqb, ne_eqb, ltb-true, ltb-false, eqb-true, eqb-false}
use Rattle.record.specs.Tree.{Range, Encoding, absent, sequences}
use Rattle.record.specs.Flat.{range_numbers}
use Rattle.record.specs.WellFormed.{RangeFine}
use Rattle.record.specs.Standing.{One}
use Rattle.lists.proofs.All.{all_at}
use Rattle.record.proofs.One.{one_fine, one_size, one_range}
use Rattle.lookup_ranges.specs.Ranges.{sequence_range, present, n_sequences}

-- ---- The numbers of range k

module _ {nodes rows : List ℕ} {E : Encoding} (h : One nodes rows E) (k : ℕ) (b : k < sequences) where
  pub mark_is : get_or nodes (2 + k * 3) 0 ≡ (get_or E.ranges k absent).present
  unfolding range_numbers
  mark_is =
      let e : 2 + k * 3 ≡ 2 + (k * 3 + 0) = omega arith in
      rw e (one_range h k 0 absent b (omega arith))

  pub start_is : get_or nodes (2 + k * 3 + 1) 0 ≡ (get_or E.ranges k absent).start
  unfolding range_numbers
  start_is =
      let e : 2 + k * 3 + 1 ≡ 2 + (k * 3 + 1) = omega arith in
      rw e (one_range h k 1 absent b (omega arith))

  pub end_is : get_or nodes (2 + k * 3 + 2) 0 ≡ (get_or E.ranges k absent).end
  unfolding range_numbers
  end_is =
      let e : 2 + k * 3 + 2 ≡ 2 + (k * 3 + 2) = omega arith in
      rw e (one_range h k 2 absent b (omega arith))

  pub place_there : k < length E.ranges
  place_there = omega (arith, (one_fine h).places)

  pub range_fine : RangeFine (length E.rows) (get_or E.ranges k absent)
  range_fine = all_at (RangeFine (length E.rows)) E.ranges k absent place_there (one_fine h).ranges_fine

-- ---- "sequence_range of an absent id is all rows"

pub range_there : {nodes rows : List ℕ} {E : Encoding} → One nodes rows E → (k : ℕ) → k < sequences → get_or nodes (2 + k * 3) 0 ≡ 1 → record { start = get_or nodes (2 + k * 3 + 1) 0; end = get_or nodes (2 + k * 3 + 2) 0 } ≡ sequence_range E k
unfolding sequence_range
range_there h k b e = rw (eq-eqb _ 1 (sym (mark_is h k b) ∙ e)) (λ i. record { start = start_is h k b i; end = end_is h k b i })

pub range_all : {nodes rows : List ℕ} {E : Encoding} → One nodes rows E → (k : ℕ) → (sequences ≤ k) ⊎ ((k < sequences) × (get_or nodes (2 + k * 3) 0 ≡ 1 → ⊥)) → record { start = 0; end = get_or nodes 0 0 } ≡ sequence_range E k
unfolding sequence_range
range_all {nodes} {rows} {E} h k (inl o) = rw (get_or-eq_default E.ranges absent {n = k} (omega (arith, (one_fine h).places))) (λ i. record { start = 0; end = one_size h i })
range_all {nodes} {rows} {E} h k (inr (b, e)) = rw (ne_eqb (get_or E.ranges k absent).present 1 (λ a. e (mark_is h k b ∙ a))) (λ i. record { start = 0; end = one_size h i })

-- ---- One step of the count of the ranges

abbrev pub present_from : ℕ → Encoding → ℕ
present_from k E = present (drop k E.ranges)

pub present_step : (q : List Range) (k : ℕ) → k < length q → present (drop k q) ≡ (get_or q k absent).present + present (drop (k + 1) q)
unfolding present
present_step q k h = rw (drop-cons q k absent h, present, add-one)

pub present_end : {nodes rows : List ℕ} {E : Encoding} → One nodes rows E → (k : ℕ) → sequences ≤ k → present_from k E ≡ 0
unfolding present
present_end {nodes} {rows} {E} h k o = rw (drop_of_length-le E.ranges {i = k} (omega (arith, (one_fine h).places)))

module _ {nodes rows : List ℕ} {E : Encoding} (h : One nodes rows E) (k : ℕ) (b : k < sequences) where
  pub present_more : get_or nodes (2 + k * 3) 0 ≡ 1 → present_from k E ≡ 1 + present_from (k + 1) E
  present_more e = omega (arith, mark_is h k b, present_step E.ranges k (place_there h k b))

  pub present_same : (get_or nodes (2 + k * 3) 0 ≡ 1 → ⊥) → present_from k E ≡ present_from (k + 1) E
  present_same e =
      let z : (get_or E.ranges k absent).present ≡ 0 = ⊎_elim (λ a. ap (λ (p : Range). p.present) a) (λ a. absurd (e (mark_is h k b ∙ a.0))) (range_fine h k b) in
      omega (arith, present_step E.ranges k (place_there h k b))

-- ---- "n the number of ranges or 1"

pub count_none : (E : Encoding) → present E.ranges ≡ 0 → n_sequences E ≡ 1
unfolding n_sequences
count_none E n = rw (eq-eqb (present E.ranges) 0 n)

pub count_some : (E : Encoding) → (present E.ranges ≡ 0 → ⊥) → n_sequences E ≡ present E.ranges
unfolding n_sequences
count_some E n = rw (ne_eqb (present E.ranges) 0 n)

pub count_is : (E : Encoding) → n_sequences E ≡ max (present E.ranges) 1
count_is E = go (eqb (present E.ranges) 0) refl
  where
    go : (b : Bool) → eqb (present E.ranges) 0 ≡ b → n_sequences E ≡ max (present E.ranges) 1
    go true b = let none = eqb-true (present E.ranges) 0 b in omega (arith, count_none E none)
    go false b = let some = eqb-false (present E.ranges) 0 b in omega (arith, count_some E some)

-- ---- The rows of a sequence are rows of the encoding

pub range_within : {nodes rows : List ℕ} {E : Encoding} → One nodes rows E → (k : ℕ) → ((sequence_range E k).start ≤ (sequence_range E k).end) × ((sequence_range E k).end ≤ length E.rows)
unfolding sequence_range
range_within {nodes} {rows} {E} h k = go (ltb k sequences) refl
  where
    all_rows_lem : eqb (get_or E.ranges k absent).present 1 ≡ false → ((sequence_range E k).start ≤ (sequence_range E k).end) × ((sequence_range E k).end ≤ length E.rows)
    all_rows_lem e = rw e (omega arith, omega arith)

    go : (b : Bool) → ltb k sequences ≡ b → ((sequence_range E k).start ≤ (sequence_range E k).end) × ((sequence_range E k).end ≤ length E.rows)
    go true b = ⊎_elim (λ a. all_rows_lem (rw a)) (λ a. rw (eq-eqb (get_or E.ranges k absent).present 1 a.0) (a.1, a.2)) (range_fine h k (ltb-true k sequences b))
    go false b = all_rows_lem (rw (get_or-eq_default E.ranges absent {n = k} (omega (arith, (one_fine h).places, ltb-false k sequences b))))
