-- The walk that finds the first row that holds a place.
-- Assumes nothing.
use mathlib.Core.Path.{◌≡◌, refl, sym, ap₂, ◌∙◌}
use Prim.Native.Nat.{ℕ, ◌+◌, ◌*◌, ◌≤◌, ◌<◌}
use native.Mathlib.Omega.{arith}
use mathlib.Core.Bool.{Bool, true, false, ◌&&◌}
use mathlib.Core.Option.{none as nothing, some}
use mathlib.Core.List.{List}
use lib.Dec.{leb, ltb}
use lib.ListN.{length, get_or}
use Rattle.record.specs.Tree.{Row}
use Rattle.record.specs.Flat.{row_width}
use Rattle.record.specs.Standing.{RowsAt}
use Rattle.lookup_ranges.specs.First.{first_from, part}
use Rattle.lookup_search.specs.Searches.{holds_place}
use Rattle.lookup_search.specs.Promises.{OfRows, at_offset_start, at_offset_end}
use Rattle.lookup_search.proofs.Search.{first_end, first_hit, first_miss}
use Rattle.lookup_search.proofs.Stored.{no_row, stored_offset_start, stored_offset_end}

-- Whether the stored row i holds the place.
abbrev pub stored_holds : List ℕ → ℕ → ℕ → Bool
stored_holds rows p i = leb (get_or rows (i * row_width + at_offset_start) 0) p && ltb p (get_or rows (i * row_width + at_offset_end) 0)

-- No row from `start` up to i holds it.
abbrev pub Passed : List ℕ → ℕ → ℕ → ℕ → ℕ → Type 0
Passed rows p start e i = OfRows rows e (λ l. first_from (holds_place p) start (part start e l) ≡ first_from (holds_place p) i (part i e l))

pub passed_start : (rows : List ℕ) (p start e : ℕ) → Passed rows p start e start
passed_start rows p start e = λ l h k. refl

module _ (rows : List ℕ) (p start e i : ℕ) (passed : Passed rows p start e i) where
  same : (l : List Row) → RowsAt rows 0 l → i < length l → holds_place p (get_or l i no_row) ≡ stored_holds rows p i
  same l h y = ap₂ (λ (a b : ℕ). leb a p && ltb p b) (sym (stored_offset_start h i y)) (sym (stored_offset_end h i y))

  pub passed_end : e ≤ i → OfRows rows e (λ l. first_from (holds_place p) start (part start e l) ≡ nothing)
  passed_end x = λ l h k. passed l h k ∙ first_end (holds_place p) l i e x

  pub passed_hit : i < e → stored_holds rows p i ≡ true → OfRows rows e (λ l. first_from (holds_place p) start (part start e l) ≡ some i)
  passed_hit x y = λ l h k. passed l h k ∙ first_hit (holds_place p) l i e no_row x k (same l h (omega arith) ∙ y)

  pub passed_miss : i < e → stored_holds rows p i ≡ false → Passed rows p start e (i + 1)
  passed_miss x n = λ l h k. passed l h k ∙ first_miss (holds_place p) l i e no_row x k (same l h (omega arith) ∙ n)
