-- The span of the rows passed: none at the start, one row more.
-- Assumes nothing.
use mathlib.Core.Path.{◌≡◌, sym, ap, ap₂, ◌∙◌}
use mathlib.Core.Bool.{Bool, true, cond}
use Rattle.std.specs.Bool.{then_some}
use mathlib.Core.Option.{Option, none as nothing, some}
use Prim.Native.Nat.{ℕ, ◌+◌, ◌*◌, ◌≤◌, min, max}
use native.Mathlib.Numerals.{add-one}
use native.Mathlib.Omega.{arith}
use mathlib.Core.List.{List, [], ◌∷◌}
use lib.ListN.{get_or, drop}
use lib.Seq.{get_or-drop}
use borrow.Author.Tests.{eq-eqb, ne_eqb}
use Rattle.record.specs.Tree.{Row}
use Rattle.record.specs.Flat.{row_width, row_at}
use Rattle.record.specs.Read.{several}
use Rattle.record.proofs.Several.{several_more}
use Rattle.lookup_spans.specs.Spans.{Span, span_from, joint, row_span, span_of}
use Rattle.lookup_spans.specs.Seen.{seen_of, widest_of}
use Rattle.lookup_spans.specs.declared.Widest.{Widest}
use Rattle.lookup_spans.proofs.Spans.{joint_none, span_nothing, span_one, span_append}

-- i rows from row number `first` on
abbrev pub rows_from : List ℕ → ℕ → ℕ → List Row
rows_from rows first i = several row_at row_width i (drop (first * row_width) rows)

pub passed_none : (rows : List ℕ) (first : ℕ) → widest_of nothing ≡ widest_of (span_of (rows_from rows first 0))
unfolding several
passed_none rows first = ap widest_of (sym span_nothing)

-- ---- One row more

module _ (rows : List ℕ) (first i : ℕ) where
  -- the row that comes next, and its number in a column
  abbrev next : List ℕ
  next = drop (i * row_width) (drop (first * row_width) rows)

  abbrev number_in : ℕ → ℕ
  number_in column = get_or rows ((first + i) * row_width + column) 0

  next_number : (column : ℕ) → get_or next column 0 ≡ number_in column
  next_number column =
      let e : first * row_width + (i * row_width + column) ≡ (first + i) * row_width + column = omega arith in
      get_or-drop (i * row_width) (drop (first * row_width) rows) column 0 ∙ get_or-drop (first * row_width) rows (i * row_width + column) 0 ∙ ap (λ (n : ℕ). get_or rows n 0) e

  one_row : span_of (row_at next ∷ []) ≡ row_span (number_in 9) (number_in 7) (number_in 8)
  unfolding row_at
  one_row = span_one (row_at next) ∙ rw (next_number 9, next_number 7, next_number 8)

  pub passed_more : joint (span_of (rows_from rows first i)) (row_span (number_in 9) (number_in 7) (number_in 8)) ≡ span_of (rows_from rows first (i + 1))
  passed_more =
      sym
      (ap (λ (n : ℕ). span_of (rows_from rows first n)) (add-one i) ∙ ap span_of (several_more row_at row_width i (drop (first * row_width) rows)) ∙ span_append (rows_from rows first i) (row_at next ∷ [])
      ∙ ap (joint (span_of (rows_from rows first i))) one_row)

-- ---- One step

module _ (mask start end : ℕ) (s : Option Span) where
  abbrev own : Option Span
  own = some (span_from start end)

  -- a row that does not count
  pub step_special : {seen : Widest} → seen ≡ widest_of s → (mask ≡ 0 → ⊥) → seen ≡ widest_of (joint s (row_span mask start end))
  step_special e n = e ∙ ap widest_of (sym (ap (λ (b : Bool). joint s (cond b own nothing)) (ne_eqb mask 0 n) ∙ joint_none s))

  counts : mask ≡ 0 → joint s own ≡ joint s (row_span mask start end)
  counts z = ap (λ (b : Bool). joint s (cond b own nothing)) (sym (eq-eqb mask 0 z))

-- one that counts, the first or a further one
pub step_plain : (seen : Widest) (mask start end : ℕ) (s : Option Span) → start ≤ 4294967295 → seen ≡ widest_of s → mask ≡ 0
    → record { found = true; start = min seen.start start; end = max seen.end end } ≡ widest_of (joint s (row_span mask start end))
step_plain seen mask start end s h e z = go s e ∙ ap widest_of (counts mask start end s z)
  where
    wider : Widest → Widest
    wider p = record { found = true; start = min p.start start; end = max p.end end }

    go : (s : Option Span) → seen ≡ widest_of s → wider seen ≡ widest_of (joint s (some (span_from start end)))
    go nothing e =
        let least : min 4294967295 start ≡ start = omega arith in
        let greatest : max 0 end ≡ end = omega arith in
        ap wider e ∙ ap₂ (λ (a b : ℕ). widest_of (some (span_from a b))) least greatest
    go (some s) e = ap wider e

-- ---- The span at the end

pub told : (s : Option Span) {seen : Widest} → seen ≡ widest_of s → then_some seen.found (record { start = seen.start; end = seen.end }) ≡ seen_of s
told nothing e = ap (λ (p : Widest). then_some p.found (record { start = p.start; end = p.end })) e
told (some s) e = ap (λ (p : Widest). then_some p.found (record { start = p.start; end = p.end })) e
