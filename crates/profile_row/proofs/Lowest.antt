-- The lowest rule that a row breaks, by its numbers: which one it is.
-- Assumes nothing.
use mathlib.Core.Path.{◌≡◌, refl}
use mathlib.Core.Bool.{Bool, true, false, ◌&&◌, ◌||◌, not, cond}
use Prim.Native.Nat.{ℕ, ◌+◌, ◌≤◌, ◌<◌}
use mathlib.Core.List.{List}
use lib.Dec.{eqb, ltb}
use lib.ListN.{get_or, drop}
use lib.Seq.{get_or-drop}
use borrow.Author.Tests.{lt-ltb, le-ltb, eq-eqb, ne_eqb, eqb-true}
use Rattle.record.specs.Flat.{row_at}
use Rattle.profile_trees.specs.Promises.{no_rule}
use Rattle.lookup_search.specs.Promises.{at_word_mark, at_word, at_offset_start, at_offset_end}
use Rattle.profile_row.specs.Promises.{lowest_rule}

-- ---- The row at a place by its numbers

-- what `lowest_rule` says of a row with these numbers
abbrev rule_of : Bool → ℕ → ℕ → ℕ → ℕ → ℕ → ℕ → ℕ → ℕ
rule_of words last special attention start end mark word =
    cond (ltb 1 special || ltb 1 attention) 2
    (cond (eqb attention 0 && not (eqb special 1)) 3
    (cond (ltb end start) 4
    (cond (words && (eqb mark 1 && ltb word last)) 6 no_rule)))

-- the number in a column of the row at a place
abbrev pub column : List ℕ → ℕ → ℕ → ℕ
column rows at n = get_or rows (at + n) 0

-- the two masks' columns; those of words and offsets have their names in lookup_search
abbrev pub at_special : ℕ
at_special = 9

abbrev pub at_attention : ℕ
at_attention = 10

module _ (words : Bool) (last : ℕ) (rows : List ℕ) (at : ℕ) where
  rule_at : rule_of words last (column rows at at_special) (column rows at at_attention) (column rows at at_offset_start) (column rows at at_offset_end) (column rows at at_word_mark) (column rows at at_word)
      ≡ lowest_rule words last (row_at (drop at rows))
  unfolding row_at
  rule_at = simp get_or-drop

-- ---- Masks

-- masks that break no rule
pub record MasksFine (special attention : ℕ) : Type 0 where
  pub known : (ltb 1 special || ltb 1 attention) ≡ false
  pub attended : (eqb attention 0 && not (eqb special 1)) ≡ false

pub masks_fine : (special attention : ℕ) → special ≤ 1 → attention ≤ 1 → (attention ≡ 0 → special ≡ 1) → MasksFine special attention
masks_fine special attention s a h = record { known = rw (le-ltb 1 special s, le-ltb 1 attention a); attended = go (eqb attention 0) refl }
  where
    go : (b : Bool) → eqb attention 0 ≡ b → (b && not (eqb special 1)) ≡ false
    go true e = rw (eq-eqb special 1 (h (eqb-true attention 0 e)))
    go false e = refl

-- ---- The rules one after another

module _ (words : Bool) (last : ℕ) (rows : List ℕ) (at : ℕ) where
  pub rule_special : 1 < column rows at at_special → 2 ≡ lowest_rule words last (row_at (drop at rows))
  rule_special h = rw (← rule_at words last rows at, lt-ltb 1 (column rows at at_special) h)

  pub rule_attention : column rows at at_special ≤ 1 → 1 < column rows at at_attention → 2 ≡ lowest_rule words last (row_at (drop at rows))
  rule_attention s h = rw (← rule_at words last rows at, le-ltb 1 (column rows at at_special) s, lt-ltb 1 (column rows at at_attention) h)

  pub rule_unattended : column rows at at_special ≤ 1 → column rows at at_attention ≤ 1 → column rows at at_attention ≡ 0 → (column rows at at_special ≡ 1 → ⊥)
      → 3 ≡ lowest_rule words last (row_at (drop at rows))
  rule_unattended s a e n =
      rw (← rule_at words last rows at, le-ltb 1 (column rows at at_special) s, le-ltb 1 (column rows at at_attention) a, eq-eqb (column rows at at_attention) 0 e, ne_eqb (column rows at at_special) 1 n)

  module _ (fine : MasksFine (column rows at at_special) (column rows at at_attention)) where
    pub rule_passes : column rows at at_offset_end < column rows at at_offset_start → 4 ≡ lowest_rule words last (row_at (drop at rows))
    rule_passes h = rw (← rule_at words last rows at, fine.known, fine.attended, lt-ltb (column rows at at_offset_end) (column rows at at_offset_start) h)

    module _ (ordered : column rows at at_offset_start ≤ column rows at at_offset_end) where
      past_offsets : cond (words && (eqb (column rows at at_word_mark) 1 && ltb (column rows at at_word) last)) 6 no_rule ≡ lowest_rule words last (row_at (drop at rows))
      past_offsets = rw (← rule_at words last rows at, fine.known, fine.attended, le-ltb (column rows at at_offset_end) (column rows at at_offset_start) ordered)

      pub rule_falls : words ≡ true → column rows at at_word_mark ≡ 1 → column rows at at_word < last → 6 ≡ lowest_rule words last (row_at (drop at rows))
      rule_falls w m h = rw (← past_offsets, w, eq-eqb (column rows at at_word_mark) 1 m, lt-ltb (column rows at at_word) last h)

      -- no word falls
      pub rule_none : (words && (eqb (column rows at at_word_mark) 1 && ltb (column rows at at_word) last)) ≡ false → no_rule ≡ lowest_rule words last (row_at (drop at rows))
      rule_none w = rw (← past_offsets, w)

      -- words are not looked at
      pub rule_outside : words ≡ false → no_rule ≡ lowest_rule words last (row_at (drop at rows))
      rule_outside w = rw (← past_offsets, w)

      -- there is no word
      pub rule_no_word : words ≡ true → (column rows at at_word_mark ≡ 1 → ⊥) → no_rule ≡ lowest_rule words last (row_at (drop at rows))
      rule_no_word w n = rw (← past_offsets, w, ne_eqb (column rows at at_word_mark) 1 n)

      -- it is not below the last one
      pub rule_not_below : words ≡ true → column rows at at_word_mark ≡ 1 → last ≤ column rows at at_word → no_rule ≡ lowest_rule words last (row_at (drop at rows))
      rule_not_below w m h = rw (← past_offsets, w, eq-eqb (column rows at at_word_mark) 1 m, le-ltb (column rows at at_word) last h)
