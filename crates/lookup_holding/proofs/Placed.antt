-- What `token_to_sequence` finds: document 01's sequence, with a place that leads back to the row. So no two rows have the
-- same place in the same sequence, and a place counted from the start of a range is found again.
-- Assumes nothing.
use mathlib.Core.Path.{◌≡◌, refl, sym, ap, ◌∙◌}
use mathlib.Core.Bool.{Bool, true, false}
use mathlib.Core.Option.{Option, none as nothing, some, map}
use Prim.Native.Nat.{ℕ, zero, suc, ◌+◌, ◌-◌, ◌≤◌, ◌<◌}
use native.Mathlib.Omega.{arith}
use mathlib.Core.List.{List, [], ◌∷◌}
use lib.Dec.{ltb, eqb}
use lib.ListN.{length, get_or}
use borrow.Author.Tests.{ltb-true, ltb-false, le-ltb, eqb-true, eqb-false, eq-eqb, ne_eqb}
use Rattle.record.specs.Tree.{Range, Encoding, absent}
use Rattle.record.specs.Standing.{One}
use Rattle.record.proofs.WellFormed.{tells_le, tells_eq, tells_and₃}
use Rattle.lookup_ranges.specs.Ranges.{sequence_range, present}
use Rattle.lookup_ranges.proofs.First.{FirstAt, first_found, first_is}
use Rattle.lookup_ranges.proofs.Ranges.{range_within}
use Rattle.lookup_holding.specs.Promises.{from_start}
use Rattle.lookup_holding.specs.Holding.{Placed, holds_row, holding_sequence, place_in, token_to_sequence}
use Rattle.lookup_holding.specs.InSequence.{InSequence}
use Rattle.lookup_holding.proofs.Holding.{token_above, token_first}

-- without its place it is document 01's lookup
pub sequence_alone : (E : Encoding) (row : ℕ) → map (λ (p : Placed). p.sequence) (token_to_sequence E row) ≡ holding_sequence E row
unfolding token_to_sequence
sequence_alone E row = go (holding_sequence E row)
  where
    go : (o : Option ℕ) → map (λ (p : Placed). p.sequence) (map (λ id. record { sequence = id; place = place_in E row id }) o) ≡ o
    go nothing = refl
    go (some id) = refl

-- ---- What it means that a sequence is found

-- the id, and the place as the definition counts it
found : (E : Encoding) (row : ℕ) (p : Placed) → token_to_sequence E row ≡ some p → (holding_sequence E row ≡ some p.sequence) × (p.place ≡ place_in E row p.sequence)
unfolding token_to_sequence
found E row p e = go (holding_sequence E row) e
  where
    go : (o : Option ℕ) → map (λ id. record { sequence = id; place = place_in E row id }) o ≡ some p → (o ≡ some p.sequence) × (p.place ≡ place_in E row p.sequence)
    go nothing e = absurd (let z : ◌≡◌ {A = ℕ} 0 1 = cc in omega arith)
    go (some id) e =
        let z : record { sequence = id; place = place_in E row id } ≡ p = cc in
        (ap (λ (q : Placed). some q.sequence) z, sym (ap (λ (q : Placed). q.place) z) ∙ ap (λ (q : Placed). place_in E row q.sequence) z)

-- it is no row number above the row count
pub placed_row : (E : Encoding) (row : ℕ) (p : Placed) → token_to_sequence E row ≡ some p → row ≤ length E.rows
placed_row E row p e = go (ltb (length E.rows) row) refl
  where
    go : (b : Bool) → ltb (length E.rows) row ≡ b → row ≤ length E.rows
    go true b = absurd (let z : ◌≡◌ {A = ℕ} 0 1 = cc (token_above E row (ltb-true (length E.rows) row b)) in omega arith)
    go false b = ltb-false (length E.rows) row b

-- where there are ranges, the sequence found has one that holds the row, and none with a smaller id does
pub token_found : (E : Encoding) (row : ℕ) (p : Placed) → (present E.ranges ≡ 0 → ⊥) → token_to_sequence E row ≡ some p → FirstAt (holds_row row) 0 E.ranges absent p.sequence
unfolding holding_sequence
token_found E row p n e = first_found (holds_row row) absent 0 E.ranges p.sequence (rw (le-ltb (length E.rows) row (placed_row E row p e), ne_eqb (present E.ranges) 0 n) at (found E row p e).0)

-- what it means that a range holds a row
held : (row : ℕ) (p : Range) → holds_row row p ≡ true → (p.present ≡ 1) × (p.start ≤ row) × (row < p.end)
held row p e = (tells_and₃ (tells_eq p.present 1) (tells_le p.start row) (tells_le (suc row) p.end)).so e

-- a range that is there is among those counted
present_most : (q : List Range) (i : ℕ) → (get_or q i absent).present ≤ present q
unfolding present
present_most [] i = omega arith
present_most (p ∷ q) zero = omega arith
present_most (p ∷ q) (suc i) = omega (arith, present_most q i)

-- ---- Where a row stands

pub placed_in_sequence : (E : Encoding) (row : ℕ) (p : Placed) → token_to_sequence E row ≡ some p → InSequence E row p
unfolding sequence_range place_in
placed_in_sequence E row p e = go (eqb (present E.ranges) 0) refl
  where
    range : Range
    range = get_or E.ranges p.sequence absent

    alone : present E.ranges ≡ 0 → InSequence E row p
    alone n =
        let z : p.place ≡ row = (found E row p e).1 ∙ rw (eq-eqb (present E.ranges) 0 n) in
        let a = ne_eqb range.present 1 (λ x. omega (arith, present_most E.ranges p.sequence)) in
        record { counted = rw a (omega arith); inside = λ h. rw a h; itself = λ x. z }

    among : (present E.ranges ≡ 0 → ⊥) → InSequence E row p
    among n =
        let z : p.sequence - 0 ≡ p.sequence = omega arith in
        let t = held row range (rw z at (token_found E row p n e).holds) in
        let a = eq-eqb range.present 1 t.0 in
        let c : p.place ≡ row - range.start = (found E row p e).1 ∙ rw (ne_eqb (present E.ranges) 0 n) in
        record { counted = rw a (omega (arith, t.1)); inside = λ h. rw a t.2; itself = λ x. absurd (n x) }

    go : (b : Bool) → eqb (present E.ranges) 0 ≡ b → InSequence E row p
    go true n = alone (eqb-true (present E.ranges) 0 n)
    go false n = among (eqb-false (present E.ranges) 0 n)

-- no two rows have the same place in the same sequence
pub placed_once : (E : Encoding) (i j : ℕ) (p : Placed) → token_to_sequence E i ≡ some p → token_to_sequence E j ≡ some p → i ≡ j
placed_once E i j p e f = sym (placed_in_sequence E i p e).counted ∙ (placed_in_sequence E j p f).counted

-- a place counted from the start of a range is found again, unless the range of a smaller id holds that row too
pub placed_there : {nodes rows : List ℕ} {E : Encoding} → One nodes rows E → (id place : ℕ) → let row = (get_or E.ranges id absent).start + place in
    FirstAt (holds_row row) 0 E.ranges absent id → token_to_sequence E row ≡ some (record { sequence = id; place = place })
unfolding sequence_range
placed_there {nodes} {rows} {E} one id place f =
    let range = get_or E.ranges id absent in
    let row = range.start + place in
    let z : id - 0 ≡ id = omega arith in
    let t = held row range (rw z at f.holds) in
    let within : range.end ≤ length E.rows = rw (eq-eqb range.present 1 t.0) at (range_within one id).1 in
    let back : row - range.start ≡ place = omega arith in
    token_first E row (omega (arith, t.2)) (λ n. omega (arith, t.0, present_most E.ranges id))
    ∙ ap (map (from_start E row)) (first_is (holds_row row) absent 0 E.ranges id f)
    ∙ ap (λ (m : ℕ). some (record { sequence = id; place = m })) back
