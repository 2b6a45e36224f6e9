-- The quick test leaves out no row that breaks a rule on rows. Assumes nothing.
use mathlib.Core.Path.{◌≡◌, refl, sym}
use mathlib.Core.Bool.{Bool, true, false, ◌&&◌, ◌||◌, true≢false}
use Prim.Native.Nat.{ℕ, zero, suc, ◌≤◌}
use native.Mathlib.Omega.{arith}
use mathlib.Core.List.{List}
use lib.Dec.{eqb, ltb}
use lib.ListN.{drop}
use lib.Seq.{get_or-drop}
use borrow.Author.Tests.{ltb-false, eqb-false}
use Rattle.record.specs.Flat.{row_at}
use Rattle.lookup_search.specs.Promises.{at_word_mark, at_word, at_offset_start, at_offset_end}
use Rattle.profile_trees.specs.Promises.{no_rule}
use Rattle.profile_row.specs.Promises.{lowest_rule}
use Rattle.profile_row.proofs.Lowest.{column, at_special, at_attention, MasksFine, masks_fine, rule_none}
use Rattle.profile_quick.specs.Promises.{mask_rule, quick_rule}

one_left : (k : ℕ) → (k ≡ 0 → ⊥) → k ≤ 1 → k ≡ 1
one_left zero n h = absurd (n refl)
one_left (suc k) n h = omega arith

-- neither mask is above 1, and not both are 0
masks_none : (special attention : ℕ) → mask_rule special attention ≡ false → MasksFine special attention
masks_none special attention h = go (ltb 1 special) (ltb 1 attention) refl refl h
  where
    both : (c d : Bool) → eqb attention 0 ≡ c → eqb special 0 ≡ d → (c && d) ≡ false → special ≤ 1 → attention ≡ 0 → special ≡ 1
    both true true p q e s z = absurd (true≢false e)
    both true false p q e s z = one_left special (eqb-false special 0 q) s
    both false d p q e s z = absurd (eqb-false attention 0 p z)

    go : (a b : Bool) → ltb 1 special ≡ a → ltb 1 attention ≡ b → (a || (b || (eqb attention 0 && eqb special 0))) ≡ false → MasksFine special attention
    go false false p q e =
        masks_fine special attention (ltb-false 1 special p) (ltb-false 1 attention q) (both (eqb attention 0) (eqb special 0) refl refl e (ltb-false 1 special p))
    go true b p q e = absurd (true≢false e)
    go false true p q e = absurd (true≢false e)

neither : (a b : Bool) → (a || b) ≡ false → (a ≡ false) × (b ≡ false)
neither true b e = absurd (true≢false e)
neither false b e = (refl, e)

module _ (words : Bool) (last : ℕ) (rows : List ℕ) (at : ℕ) where
  -- the tests, over the numbers of the row at a place
  pub quick_at : ((mask_rule (column rows at at_special) (column rows at at_attention) || ltb (column rows at at_offset_end) (column rows at at_offset_start)) || (words && (eqb (column rows at at_word_mark) 1 && ltb (column rows at at_word) last)))
      ≡ quick_rule words last (row_at (drop at rows))
  unfolding row_at
  quick_at = simp get_or-drop

  pub quick_none : ((mask_rule (column rows at at_special) (column rows at at_attention) || ltb (column rows at at_offset_end) (column rows at at_offset_start)) || (words && (eqb (column rows at at_word_mark) 1 && ltb (column rows at at_word) last))) ≡ false
      → lowest_rule words last (row_at (drop at rows)) ≡ no_rule
  quick_none none =
      let (others, falls) = neither _ _ none in
      let (masks, passes) = neither _ _ others in
      sym (rule_none words last rows at (masks_none (column rows at at_special) (column rows at at_attention) masks) (ltb-false (column rows at at_offset_end) (column rows at at_offset_start) passes) falls)
