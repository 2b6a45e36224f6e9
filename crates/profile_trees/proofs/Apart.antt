-- The rules of a node looked for apart: the fifth by its ranges alone, the others row by row, with a test in the place of the
-- sixth that need only agree where no lower rule is broken. Assumes nothing.
use mathlib.Core.Path.{◌≡◌, refl, sym, ap, ◌∙◌}
use mathlib.Core.Logic.{◌⊎◌, inl, inr}
use mathlib.Core.Bool.{Bool, true, false, cond}
use mathlib.Core.Option.{Option, none as nothing, some, map}
use Prim.Native.Nat.{ℕ, zero, suc, ◌+◌, ◌≤◌, ◌<◌}
use native.Mathlib.Omega.{arith}
use mathlib.Core.List.{List, [], ◌∷◌}
use lib.Dec.{ltb}
use borrow.Author.Tests.{ltb-true}
use Rattle.lookup_ranges.specs.First.{or_else}
use Rattle.profile_trees.specs.Rules.{BatchNode, Rule, NumberedRule, rule, rules, has_windows, of_row, other_mask, unattended, start_passes, in_two, word_falls}
use Rattle.profile_trees.specs.Profile.{NodeRow, rows_from, first_row, break_at, first_break}
use Rattle.profile_trees.specs.Promises.{better, shared_rules, row_rules, LowerBroken}
use Rattle.profile_trees.specs.declared.Break.{Break}
use Rattle.profile_trees.proofs.First.{better_nothing, nothing_better, better_stays, better_lower, OfRule, first_among, better_among}

-- ---- The fifth rule apart from the others

-- the first of the second, third and fourth rule that is broken
abbrev low_rules : List NumberedRule
low_rules = rule 2 (of_row other_mask) ∷ rule 3 (of_row unattended) ∷ rule 4 (of_row start_passes) ∷ []

module _ (ps : List NodeRow) where
  abbrev first : ℕ → Rule → Option Break
  first number broken = map (break_at number) (first_row broken ps)

  low_few : OfRule (λ n. n ≤ 4) (first_break low_rules ps)
  low_few = first_among (λ n. n ≤ 4) low_rules (omega arith) ps

  -- rules one after another
  then_more : (A : Option Break) (x y z : Option Break) → or_else x (or_else y (or_else z A)) ≡ or_else (or_else x (or_else y (or_else z nothing))) A
  then_more A (some x) y z = refl
  then_more A nothing (some y) z = refl
  then_more A nothing nothing (some z) = refl
  then_more A nothing nothing nothing = refl

  low_then : (rs : List NumberedRule) → first_break (rule 2 (of_row other_mask) ∷ rule 3 (of_row unattended) ∷ rule 4 (of_row start_passes) ∷ rs) ps ≡ or_else (first_break low_rules ps) (first_break rs ps)
  unfolding first_break
  low_then rs = then_more (first_break rs ps) (first 2 (of_row other_mask)) (first 3 (of_row unattended)) (first 4 (of_row start_passes))

  -- the rules after the first: those on rows, and the fifth
  rules_apart : first_break (rule 2 (of_row other_mask) ∷ rule 3 (of_row unattended) ∷ rule 4 (of_row start_passes) ∷ rule 5 in_two ∷ rule 6 word_falls ∷ []) ps
      ≡ better (first_break shared_rules ps) (first_break (row_rules word_falls) ps)
  unfolding first_break
  rules_apart =
      low_then (rule 5 in_two ∷ rule 6 word_falls ∷ [])
      ∙ go (first_break low_rules ps) low_few (first_row in_two ps) (first_row word_falls ps)
      ∙ ap (better (first_break shared_rules ps)) (sym (low_then (rule 6 word_falls ∷ [])))
    where
      go : (low : Option Break) → OfRule (λ n. n ≤ 4) low → (x y : Option NodeRow)
          → or_else low (or_else (map (break_at 5) x) (or_else (map (break_at 6) y) nothing))
          ≡ better (or_else (map (break_at 5) x) nothing) (or_else low (or_else (map (break_at 6) y) nothing))
      go (some b) h (some p) y = sym (better_lower (break_at 5 p) b (omega (arith, h)))
      go (some b) h nothing y = sym (nothing_better (some b))
      go nothing h (some p) (some q) = sym (better_stays (break_at 5 p) (break_at 6 q) (omega arith))
      go nothing h (some p) nothing = sym (better_nothing (some (break_at 5 p)))
      go nothing h nothing (some q) = sym (nothing_better (some (break_at 6 q)))
      go nothing h nothing nothing = sym (nothing_better nothing)

  -- where the first rule is not broken
  pub node_apart : first_row has_windows ps ≡ nothing → first_break rules ps ≡ better (first_break shared_rules ps) (first_break (row_rules word_falls) ps)
  unfolding first_break
  node_apart e = ap (λ (x : Option NodeRow). or_else (map (break_at 1) x) (first_break (rule 2 (of_row other_mask) ∷ rule 3 (of_row unattended) ∷ rule 4 (of_row start_passes) ∷ rule 5 in_two ∷ rule 6 word_falls ∷ []) ps)) e ∙ rules_apart

  pub apart_above : first_row has_windows ps ≡ nothing → OfRule (λ n. 1 < n) (first_break rules ps)
  apart_above e = rw (node_apart e) (better_among (λ n. 1 < n) (first_break shared_rules ps) (first_break (row_rules word_falls) ps) (first_among (λ n. 1 < n) shared_rules (omega arith) ps) (first_among (λ n. 1 < n) (row_rules word_falls) (omega arith) ps))

-- where the first rule is broken it is told, unless it was before
pub first_told : (before : Option Break) (ps : List NodeRow) (p : NodeRow) → OfRule (λ n. 1 < n) before → first_row has_windows ps ≡ some p → better before (first_break rules ps) ≡ some (break_at 1 p)
unfolding first_break
first_told before ps p h e = ap (λ (x : Option NodeRow). better before (or_else (map (break_at 1) x) (first_break (rule 2 (of_row other_mask) ∷ rule 3 (of_row unattended) ∷ rule 4 (of_row start_passes) ∷ rule 5 in_two ∷ rule 6 word_falls ∷ []) ps))) e ∙ go before h
  where
    go : (before : Option Break) → OfRule (λ n. 1 < n) before → better before (some (break_at 1 p)) ≡ some (break_at 1 p)
    go nothing h = nothing_better (some (break_at 1 p))
    go (some b) h = better_lower b (break_at 1 p) h

-- ---- Another test in the place of the sixth rule

pub better_lower_broken : (a b : Option Break) → LowerBroken a → LowerBroken (better a b)
unfolding better
better_lower_broken nothing b h = absurd h
better_lower_broken (some a) nothing h = h
better_lower_broken (some a) (some b) h = go (ltb b.rule a.rule) refl
  where
    go : (t : Bool) → ltb b.rule a.rule ≡ t → LowerBroken (cond t (some b) (some a))
    go true e = omega (arith, h, ltb-true b.rule a.rule e)
    go false e = h

-- the two tests agree at so many rows of a node
abbrev pub Agree : Rule → Rule → BatchNode → ℕ → ℕ → Type 0
Agree s t N row count = (k : ℕ) → row ≤ k → k < row + count → s N k ≡ t N k

pub agree_first : (s t : Rule) (number : ℕ) (N : BatchNode) (row count : ℕ) → Agree s t N row count → first_row s (rows_from number N row count) ≡ first_row t (rows_from number N row count)
unfolding first_row rows_from
agree_first s t number N row zero h = refl
agree_first s t number N row (suc count) h =
    let here : s N row ≡ t N row = h row (omega arith) (omega arith) in
    rw (here, agree_first s t number N (suc row) count (λ k a b. h k (omega arith) (omega arith)))

module _ (s t : Rule) (before : Option Break) (number : ℕ) (N : BatchNode) (row count : ℕ) where
  pub sixth_instead : LowerBroken before ⊎ Agree s t N row count → better before (first_break (row_rules s) (rows_from number N row count)) ≡ better before (first_break (row_rules t) (rows_from number N row count))
  unfolding first_break
  sixth_instead (inr h) = rw (agree_first s t number N row count h)
  sixth_instead (inl h) =
      let ps = rows_from number N row count in
      ap (better before) (low_then ps (rule 6 s ∷ []))
      ∙ go before (first_break low_rules ps) h (first_row s ps) (first_row t ps)
      ∙ ap (better before) (sym (low_then ps (rule 6 t ∷ [])))
    where
      sixth : (b : Break) (x : Option NodeRow) → b.rule ≤ 5 → better (some b) (or_else (map (break_at 6) x) nothing) ≡ some b
      sixth b nothing h = better_nothing (some b)
      sixth b (some p) h = better_stays b (break_at 6 p) (omega arith)

      go : (before low : Option Break) → LowerBroken before → (x y : Option NodeRow) → better before (or_else low (or_else (map (break_at 6) x) nothing)) ≡ better before (or_else low (or_else (map (break_at 6) y) nothing))
      go nothing low h x y = absurd h
      go (some b) (some l) h x y = refl
      go (some b) nothing h x y = sixth b x h ∙ sym (sixth b y h)
