-- New rows, written one after another, and beside the rows of a node.
-- Assumes nothing.
use mathlib.Core.Path.{◌≡◌, sym, ap, ◌∙◌}
use Prim.Native.Nat.{ℕ, ◌+◌, ◌*◌, ◌≤◌}
use native.Mathlib.Omega.{arith}
use mathlib.Core.List.{List, [], ◌∷◌, ◌++◌, flat_map, append-nil}
use lib.ListN.{length, take, drop, replicate, length-drop, length-replicate, replicate-append-replicate}
use lib.Seq.{sets, length-take-le}
use Rattle.record.specs.Tree.{Row}
use Rattle.record.specs.Flat.{row_width, row_numbers}
use Rattle.record.proofs.Flat.{length_numbers, row_stored}
use Rattle.lists.proofs.Sets.{sets_append}
use Rattle.record.proofs.Walk.{numbers_append}
use Rattle.cut_plan.specs.declared.Direction.{Direction}
use Rattle.cut_plan.specs.declared.Direction.TheVariants.{Left, Right}
use Rattle.pad_rows.specs.declared.PadToken.{PadToken}
use Rattle.pad_rows.specs.NewRows.{pad_row, beside}
use Rattle.pad_rows.specs.Promises.{pad_numbers}
use Rattle.lists.proofs.Writing.{two_sets}

module _ (token : PadToken) where
  pub pads_long : (k : ℕ) → length (pad_numbers token k) ≡ k * row_width
  pads_long k = length_numbers row_stored (replicate k (pad_row token)) ∙ ap (λ (n : ℕ). n * row_width) (length-replicate k (pad_row token))

  pads_more : (k : ℕ) → pad_numbers token k ++ row_numbers (pad_row token) ≡ pad_numbers token (k + 1)
  unfolding flat_map
  pads_more k =
      ap (pad_numbers token k ++◌) (sym (append-nil (row_numbers (pad_row token))))
      ∙ sym (numbers_append (replicate k (pad_row token)) (pad_row token ∷ []))
      ∙ ap (flat_map row_numbers) (replicate-append-replicate k 1 (pad_row token))

  -- one more after the others
  pub pads_turn : (k to : ℕ) (was : List ℕ) {out out' : List ℕ} {r : Row} → out ≡ sets was to (pad_numbers token k) → r ≡ pad_row token → out' ≡ sets out (to + k * row_width) (row_numbers r) → out' ≡ sets was to (pad_numbers token (k + 1))
  pads_turn k to was {out} {out'} {r} o e p =
      let l : to + k * row_width ≡ to + length (pad_numbers token k) = omega (arith, pads_long k) in
      p ∙ ap (λ (r : Row). sets out (to + k * row_width) (row_numbers r)) e ∙ rw (o, l) (sets_append was to (pad_numbers token k) (row_numbers (pad_row token)) ∙ ap (sets was to) (pads_more k))

-- ---- Beside the rows of a node

module _ (token : PadToken) (rows : List ℕ) (from size new to : ℕ) (out : List ℕ) (stands : from + size * row_width ≤ length rows) where
  abbrev own : List ℕ
  own = take (size * row_width) (drop from rows)

  own_long : length own ≡ size * row_width
  own_long = length-take-le (size * row_width) (drop from rows) (omega (arith, length-drop from rows))

  pub rows_left : {out₁ out₂ : List ℕ} {d : Direction} → d ≡ Left → out₁ ≡ sets out to (pad_numbers token new) → out₂ ≡ sets out₁ (to + new * row_width) own → out₂ ≡ sets out to (beside d (pad_numbers token new) own)
  rows_left {out₁} {out₂} {d} e p q =
      two_sets out to (pad_numbers token new) own p (omega (arith, pads_long token new)) q
      ∙ ap (λ (d : Direction). sets out to (beside d (pad_numbers token new) own)) (sym e)

  pub rows_right : {out₁ out₂ : List ℕ} {d : Direction} → d ≡ Right → out₁ ≡ sets out to own → out₂ ≡ sets out₁ (to + size * row_width) (pad_numbers token new) → out₂ ≡ sets out to (beside d (pad_numbers token new) own)
  rows_right {out₁} {out₂} {d} e p q =
      two_sets out to own (pad_numbers token new) p (omega (arith, own_long)) q
      ∙ ap (λ (d : Direction). sets out to (beside d (pad_numbers token new) own)) (sym e)
