-- One step of the search for the range that holds a row, what it has found at its end, and the three cases of
-- `token_to_sequence`.
-- Assumes nothing.
use mathlib.Core.Path.{◌≡◌, sym, ap, ap₂, ◌∙◌}
use mathlib.Core.Logic.{◌⊎◌, inl, inr}
use mathlib.Core.Bool.{◌&&◌, false, and-false}
use mathlib.Core.Option.{Option, none as nothing, some, map}
use Prim.Native.Nat.{ℕ, ◌+◌, ◌*◌, ◌-◌, ◌≤◌, ◌<◌}
use native.Mathlib.Omega.{arith}
use mathlib.Core.List.{List}
use lib.Dec.{leb, ltb, eqb}
use lib.ListN.{length, get_or, drop}
use borrow.Author.Tests.{le-leb, lt-leb, lt-ltb, le-ltb, eq-eqb, ne_eqb}
use Rattle.record.specs.Tree.{Encoding, absent, sequences}
use Rattle.record.specs.Standing.{One}
use Rattle.record.proofs.One.{one_fine}
use Rattle.lookup_ranges.specs.First.{first_from}
use Rattle.lookup_ranges.specs.Ranges.{present}
use Rattle.lookup_ranges.proofs.First.{first_here, first_next, first_end}
use Rattle.lookup_ranges.proofs.Ranges.{mark_is, start_is, end_is, place_there}
use Rattle.lookup_holding.specs.Promises.{from_start, first_placed}
use Rattle.lookup_holding.specs.Holding.{holds_row, holding_sequence, place_in, token_to_sequence}

-- ---- One step of the search

abbrev pub first_holding : ℕ → ℕ → Encoding → Option ℕ
first_holding row k E = first_from (holds_row row) k (drop k E.ranges)

not_held : (row mark start end : ℕ) → (mark ≡ 1 → ⊥) ⊎ ((row < start) ⊎ (end ≤ row)) → (eqb mark 1 && (leb start row && ltb row end)) ≡ false
not_held row mark start end (inl n) = rw (ne_eqb mark 1 n)
not_held row mark start end (inr (inl n)) = rw (lt-leb start row n) (and-false (eqb mark 1))
not_held row mark start end (inr (inr n)) = rw (le-ltb row end n) (ap (eqb mark 1 &&◌) (and-false (leb start row)) ∙ and-false (eqb mark 1))

module _ {nodes rows : List ℕ} {E : Encoding} (h : One nodes rows E) (row k : ℕ) where
  pub holding_here : k < sequences → get_or nodes (2 + k * 3) 0 ≡ 1 → get_or nodes (2 + k * 3 + 1) 0 ≤ row → row < get_or nodes (2 + k * 3 + 2) 0 → first_holding row k E ≡ some k
  holding_here b m s e =
      first_here (holds_row row) E.ranges k k absent (place_there h k b)
      (ap₂ ◌&&◌ (eq-eqb _ 1 (sym (mark_is h k b) ∙ m)) (ap₂ ◌&&◌ (le-leb _ row (omega (arith, start_is h k b))) (lt-ltb row _ (omega (arith, end_is h k b)))))

  pub holding_end : sequences ≤ k → first_holding row k E ≡ nothing
  holding_end o = first_end (holds_row row) E.ranges k k (omega (arith, (one_fine h).places))

  pub holding_next : k < sequences → (get_or nodes (2 + k * 3) 0 ≡ 1 → ⊥) ⊎ ((row < get_or nodes (2 + k * 3 + 1) 0) ⊎ (get_or nodes (2 + k * 3 + 2) 0 ≤ row)) → first_holding row k E ≡ first_holding row (k + 1) E
  holding_next b o = first_next (holds_row row) E.ranges k k absent (place_there h k b) (rw (mark_is h k b, start_is h k b, end_is h k b) at (not_held row _ _ _ o))

  -- ---- At its end: the range's start, as the node has it, is what the place is counted from

  pub first_placed_lem : first_from (holds_row row) 0 E.ranges ≡ some k → k < sequences → first_placed E row ≡ some (record { sequence = k; place = row - get_or nodes (2 + k * 3 + 1) 0 })
  first_placed_lem e b = ap (map (from_start E row)) e ∙ ap (λ (start : ℕ). some (record { sequence = k; place = row - start })) (sym (start_is h k b))

-- ---- The three cases of `token_to_sequence`

module _ (E : Encoding) (row : ℕ) where
  pub token_above : length E.rows < row → token_to_sequence E row ≡ nothing
  unfolding token_to_sequence holding_sequence
  token_above a = rw (lt-ltb (length E.rows) row a)

  pub token_alone : row ≤ length E.rows → present E.ranges ≡ 0 → token_to_sequence E row ≡ some (record { sequence = 0; place = row })
  unfolding token_to_sequence holding_sequence place_in
  token_alone a n = rw (le-ltb (length E.rows) row a, eq-eqb (present E.ranges) 0 n)

  pub token_first : row ≤ length E.rows → (present E.ranges ≡ 0 → ⊥) → token_to_sequence E row ≡ first_placed E row
  unfolding token_to_sequence holding_sequence place_in
  token_first a n = rw (le-ltb (length E.rows) row a, ne_eqb (present E.ranges) 0 n)
