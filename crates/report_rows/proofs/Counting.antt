-- The kinds of the rows passed: none at the start, one row more, all of them. Assumes nothing.
use mathlib.Core.Path.{◌≡◌, refl, sym, ap, ap₂, ◌∙◌}
use mathlib.Core.Bool.{Bool, true, false, ◌&&◌, not}
use Prim.Native.Nat.{ℕ, ◌+◌, ◌*◌, ◌≤◌}
use native.Mathlib.Numerals.{add-one}
use native.Mathlib.Omega.{arith}
use mathlib.Core.List.{List, [], ◌∷◌}
use lib.Dec.{eqb}
use lib.ListN.{length, get_or, drop}
use lib.Seq.{get_or-drop}
use Rattle.std.specs.Int.{from_bool}
use Rattle.record.specs.Tree.{Row}
use Rattle.record.specs.Flat.{row_width, row_at}
use Rattle.record.specs.Read.{several}
use Rattle.record.proofs.Several.{length_several, several_more}
use Rattle.report_trees.specs.Counts.{one, how_many, is_padding, is_special, is_rest}
use Rattle.report_trees.proofs.Counts.{many_append, many_one}
use Rattle.report_rows.specs.Kinds.{kinds_of}

-- the first i rows
abbrev pub first_rows : List ℕ → ℕ → List Row
first_rows rows i = several row_at row_width i rows

-- the counts are those of the first i rows
pub record Counting (rows : List ℕ) (padding special rest i : ℕ) : Type 0 where
  pub padding_is : padding ≡ how_many is_padding (first_rows rows i)
  pub special_is : special ≡ how_many is_special (first_rows rows i)
  pub rest_is : rest ≡ how_many is_rest (first_rows rows i)

pub counting_start : (rows : List ℕ) → Counting rows 0 0 0 0
unfolding several how_many
counting_start rows = record { padding_is = refl; special_is = refl; rest_is = refl }

-- ---- One row more

-- its masks
abbrev mask_of : List ℕ → ℕ → ℕ
mask_of rows i = get_or rows (i * row_width + 9) 0

abbrev attention_of : List ℕ → ℕ → ℕ
attention_of rows i = get_or rows (i * row_width + 10) 0

many_more : (such : Row → Bool) (rows : List ℕ) (i : ℕ) → how_many such (first_rows rows (i + 1)) ≡ how_many such (first_rows rows i) + one (such (row_at (drop (i * row_width) rows)))
many_more such rows i =
    let row = row_at (drop (i * row_width) rows) in
    ap (λ (n : ℕ). how_many such (first_rows rows n)) (add-one i)
    ∙ ap (how_many such) (several_more row_at row_width i rows)
    ∙ many_append such (first_rows rows i) (row ∷ [])
    ∙ ap (how_many such (first_rows rows i) +◌) (many_one such row)

-- the row at a place by its masks
module _ (such : ℕ → ℕ → Bool) (rows : List ℕ) (i : ℕ) where
  by_masks : one (such (get_or (drop (i * row_width) rows) 10 0) (get_or (drop (i * row_width) rows) 9 0)) ≡ one (such (attention_of rows i) (mask_of rows i))
  by_masks = ap₂ (λ (a m : ℕ). one (such a m)) (get_or-drop (i * row_width) rows 10 0) (get_or-drop (i * row_width) rows 9 0)

-- a test as a number to add
told : (b : Bool) → from_bool b ≡ one b
unfolding one
told true = refl
told false = refl

pub counting_more : {rows : List ℕ} {padding special rest i : ℕ} → Counting rows padding special rest i
    → let zero_attention = eqb (attention_of rows i) 0 in
    let zero_mask = eqb (mask_of rows i) 0 in
    Counting rows (padding + from_bool zero_attention) (special + from_bool (not zero_attention && not zero_mask)) (rest + from_bool (not zero_attention && zero_mask)) (i + 1)
unfolding row_at
counting_more {rows} {i = i} k =
    record {
      padding_is = ap₂ ◌+◌ k.padding_is (told _ ∙ sym (by_masks (λ a m. eqb a 0) rows i)) ∙ sym (many_more is_padding rows i);
      special_is = ap₂ ◌+◌ k.special_is (told _ ∙ sym (by_masks (λ a m. not (eqb a 0) && not (eqb m 0)) rows i)) ∙ sym (many_more is_special rows i);
      rest_is = ap₂ ◌+◌ k.rest_is (told _ ∙ sym (by_masks (λ a m. not (eqb a 0) && eqb m 0) rows i)) ∙ sym (many_more is_rest rows i);
    }

-- ---- No more than there are rows

many_few : (such : Row → Bool) (R : List Row) → how_many such R ≤ length R
unfolding one how_many
many_few such [] = omega arith
many_few such (r ∷ R) = go (such r) (many_few such R)
  where
    go : (b : Bool) → how_many such R ≤ length R → one b + how_many such R ≤ length (r ∷ R)
    go true h = omega arith
    go false h = omega arith

module _ {rows : List ℕ} {padding special rest i : ℕ} (k : Counting rows padding special rest i) where
  pub padding_few : padding ≤ i
  padding_few = omega (arith, k.padding_is, many_few is_padding (first_rows rows i), length_several row_at row_width i rows)

  pub special_few : special ≤ i
  special_few = omega (arith, k.special_is, many_few is_special (first_rows rows i), length_several row_at row_width i rows)

  pub rest_few : rest ≤ i
  rest_few = omega (arith, k.rest_is, many_few is_rest (first_rows rows i), length_several row_at row_width i rows)

  pub counting_end : (count : ℕ) → i ≡ count → record { padding = padding; special = special; rest = rest } ≡ kinds_of (first_rows rows count)
  counting_end count e = λ j. record { padding = (k.padding_is ∙ ap (λ (n : ℕ). how_many is_padding (first_rows rows n)) e) j; special = (k.special_is ∙ ap (λ (n : ℕ). how_many is_special (first_rows rows n)) e) j; rest = (k.rest_is ∙ ap (λ (n : ℕ). how_many is_rest (first_rows rows n)) e) j }

-- one of a kind at most
pub one_few : (b : Bool) {x : ℕ} → x ≡ one b → x ≤ 1
unfolding one
one_few true e = omega arith
one_few false e = omega arith

-- so a test adds one at most
pub told_few : (b : Bool) → from_bool b ≤ 1
told_few b = one_few b (told b)
