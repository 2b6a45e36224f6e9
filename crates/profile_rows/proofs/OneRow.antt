-- The first break of one row: of the lowest rule that it breaks, if it breaks one. What is held of it after others.
-- Assumes nothing.
use mathlib.Core.Path.{◌≡◌, refl, sym, ap, ◌∙◌}
use mathlib.Core.Bool.{Bool, true, false, ◌&&◌, cond}
use mathlib.Core.Option.{Option, none as nothing, some, map}
use Prim.Native.Nat.{ℕ, ◌≤◌, ◌<◌}
use native.Mathlib.Omega.{arith}
use mathlib.Core.List.{[], ◌∷◌}
use lib.Dec.{eqb, ltb}
use lib.ListN.{length, get_or}
use borrow.Author.Tests.{lt-ltb, le-ltb, ltb-false}
use Rattle.record.specs.Tree.{Row}
use Rattle.lookup_ranges.specs.First.{or_else, part}
use Rattle.lookup_search.proofs.Parts.{there}
use Rattle.profile_trees.specs.Rules.{BatchNode, Rule, said_of, of_row, other_mask, unattended, start_passes, last_word, below_last, falls_from}
use Rattle.profile_trees.specs.Profile.{NodeRow, first_row, break_at, first_break}
use Rattle.profile_trees.specs.Promises.{no_rule, held, better, row_rules}
use Rattle.profile_trees.specs.declared.Break.{Break}
use Rattle.profile_row.specs.Promises.{lowest_rule}
use Rattle.profile_rows.specs.Promises.{falls_there}
use Rattle.profile_rows.proofs.LastWord.{last_or, below_last_lem}

-- ---- The lowest rule

-- by whether each of the four is broken
abbrev lowest_of : Bool → Bool → Bool → Bool → ℕ
lowest_of a b c d = cond a 2 (cond b 3 (cond c 4 (cond d 6 no_rule)))

lowest_few : (a b c d : Bool) → lowest_of a b c d ≤ no_rule
lowest_few true b c d = omega arith
lowest_few false true c d = omega arith
lowest_few false false true d = omega arith
lowest_few false false false true = omega arith
lowest_few false false false false = omega arith

pub rule_few : (words : Bool) (last : ℕ) (r : Row) → lowest_rule words last r ≤ no_rule
rule_few words last r = lowest_few (other_mask r) (unattended r) (start_passes r) (words && (eqb r.word_mark 1 && ltb r.word last))

-- the break of a rule at a row, if it is one of the rules
abbrev pub broke : ℕ → NodeRow → Option Break
broke k p = cond (ltb k no_rule) (some (break_at k p)) nothing

first_one : (falls : Rule) (p : NodeRow)
    → first_break (row_rules falls) (p ∷ []) ≡ broke (lowest_of (of_row other_mask p.of p.row) (of_row unattended p.of p.row) (of_row start_passes p.of p.row) (falls p.of p.row)) p
unfolding first_break first_row
first_one falls p = go (of_row other_mask p.of p.row) (of_row unattended p.of p.row) (of_row start_passes p.of p.row) (falls p.of p.row)
  where
    go : (a b c d : Bool)
        → or_else (map (break_at 2) (cond a (some p) nothing)) (or_else (map (break_at 3) (cond b (some p) nothing)) (or_else (map (break_at 4) (cond c (some p) nothing)) (or_else (map (break_at 6) (cond d (some p) nothing)) nothing)))
        ≡ broke (lowest_of a b c d) p
    go true b c d = refl
    go false true c d = refl
    go false false true d = refl
    go false false false true = refl
    go false false false false = refl

module _ (words : Bool) (start number : ℕ) (N : BatchNode) (row : ℕ) (d : Row) (inside : row < length N.encoding.rows) where
  falls_here : falls_from start N row ≡ (eqb (get_or N.encoding.rows row d).word_mark 1 && ltb (get_or N.encoding.rows row d).word (last_or (last_word (part start row N.encoding.rows))))
  unfolding falls_from
  falls_here = ap (said_of (below_last (last_word (part start row N.encoding.rows)))) (there N.encoding.rows row d inside) ∙ below_last_lem (last_word (part start row N.encoding.rows)) (get_or N.encoding.rows row d)

  -- the row that is stored there, after this last word
  pub first_here : (last : ℕ) → last ≡ last_or (last_word (part start row N.encoding.rows))
      → first_break (row_rules (falls_there words start)) (record { number = number; of = N; row = row } ∷ [])
      ≡ broke (lowest_rule words last (get_or N.encoding.rows row d)) (record { number = number; of = N; row = row })
  first_here last e =
      let R = N.encoding.rows in
      let r = get_or R row d in
      let p : NodeRow = record { number = number; of = N; row = row } in
      let same : lowest_of (of_row other_mask N row) (of_row unattended N row) (of_row start_passes N row) (falls_there words start N row) ≡ lowest_rule words last r =
      rw (there R row d inside, falls_here, e)
      in
      first_one (falls_there words start) p ∙ ap (λ (k : ℕ). broke k p) same

-- ---- What is held

-- a lower rule takes the place of what was found
abbrev pub lower : ℕ → ℕ → ℕ → Break → Break
lower k number row found = cond (ltb k found.rule) (record { rule = k; node = number; row = row }) found

module _ (k number row : ℕ) (found : Break) where
  pub lower_taken : {rule : ℕ} → rule ≡ k → rule < found.rule → record { rule = rule; node = number; row = row } ≡ lower k number row found
  lower_taken {rule} e h = rw (lt-ltb k found.rule (omega arith)) (ap (λ (n : ℕ). record { rule = n; node = number; row = row }) e)

  pub lower_left : found.rule ≤ k → found ≡ lower k number row found
  lower_left h = rw (le-ltb k found.rule h)

  pub lower_few : k ≤ no_rule → found.rule ≤ no_rule → (lower k number row found).rule ≤ no_rule
  lower_few a b = go (ltb k found.rule)
    where
      go : (t : Bool) → (cond t (record { rule = k; node = number; row = row }) found).rule ≤ no_rule
      go true = a
      go false = b

pub held_lower : (o : Option Break) (k : ℕ) (p : NodeRow) → (held o).rule ≤ no_rule → lower k p.number p.row (held o) ≡ held (better o (broke k p))
unfolding better
held_lower nothing k p h = go (ltb k no_rule)
  where
    go : (t : Bool) → cond t (break_at k p) (held nothing) ≡ held (cond t (some (break_at k p)) nothing)
    go true = refl
    go false = refl
held_lower (some b) k p h = go (ltb k no_rule) refl
  where
    chosen : (t : Bool) → cond t (break_at k p) b ≡ held (cond t (some (break_at k p)) (some b))
    chosen true = refl
    chosen false = refl

    go : (t : Bool) → ltb k no_rule ≡ t → lower k p.number p.row b ≡ held (better (some b) (cond t (some (break_at k p)) nothing))
    go true e = chosen (ltb k b.rule)
    go false e = sym (lower_left k p.number p.row b (omega (arith, ltb-false k no_rule e)))
