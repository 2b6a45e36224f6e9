-- The first of some rows of a node at which a rule is broken. Assumes nothing.
use mathlib.Core.Path.{◌≡◌, refl, sym, ap, ◌∙◌}
use mathlib.Core.Bool.{Bool, true, false}
use mathlib.Core.Option.{none as nothing, some}
use Prim.Native.Nat.{ℕ, zero, suc, ◌+◌, ◌≤◌, ◌<◌}
use native.Mathlib.Nat.{add-zero}
use native.Mathlib.Omega.{arith}
use mathlib.Core.List.{List, [], ◌∷◌}
use lib.ListN.{get_elem?}
use Rattle.lists.specs.Lists.{All}
use Rattle.record.specs.Tree.{Row}
use Rattle.profile_trees.specs.Rules.{BatchNode, Rule, NumberedRule, said_of, of_row, falls_from}
use Rattle.profile_trees.specs.Profile.{NodeRow, rows_from, first_row, first_break}

abbrev pub row_of : ℕ → BatchNode → ℕ → NodeRow
row_of number N row = record { number = number; of = N; row = row }

module _ (broken : Rule) (number : ℕ) (N : BatchNode) where
  -- none of them
  pub row_nowhere : (row count : ℕ) → ((k : ℕ) → row ≤ k → k < row + count → broken N k ≡ false) → first_row broken (rows_from number N row count) ≡ nothing
  unfolding first_row rows_from
  row_nowhere row zero h = refl
  row_nowhere row (suc count) h =
      let here : broken N row ≡ false = h row (omega arith) (omega arith) in
      rw (here, row_nowhere (suc row) count (λ k a b. h k (omega arith) (omega arith)))

  -- one, `far` rows on, and none before it
  pub row_first : (far row count : ℕ) → far < count → broken N (row + far) ≡ true → ((k : ℕ) → k < far → broken N (row + k) ≡ false)
      → first_row broken (rows_from number N row count) ≡ some (row_of number N (row + far))
  unfolding first_row rows_from
  row_first far row zero h t before = absurd (omega arith)
  row_first zero row (suc count) h t before =
      let here : broken N row ≡ true = rw (add-zero row) at t in
      rw here (ap (λ (k : ℕ). some (row_of number N k)) (sym (add-zero row)))
  row_first (suc far) row (suc count) h t before =
      let here : broken N row ≡ false = rw (add-zero row) at (before 0 (omega arith)) in
      let on : (k : ℕ) → row + suc k ≡ suc row + k = λ k. omega arith in
      rw here
      (row_first far (suc row) count (omega arith) (ap (broken N) (sym (on far)) ∙ t) (λ k b. ap (broken N) (sym (on k)) ∙ before (suc k) (omega arith))
      ∙ ap (λ (k : ℕ). some (row_of number N k)) (sym (on far)))

-- ---- No rule

-- no rule is broken anywhere
pub none_first : (rs : List NumberedRule) (ps : List NodeRow) → All (λ r. first_row r.broken ps ≡ nothing) rs → first_break rs ps ≡ nothing
unfolding first_break
none_first [] ps h = refl
none_first (r ∷ rs) ps h = rw (h.0, none_first rs ps h.1)

-- ---- Past the rows of a node

module _ (N : BatchNode) (row : ℕ) (past : get_elem? N.encoding.rows row ≡ nothing) where
  pub said_past : (t : Row → Bool) → of_row t N row ≡ false
  said_past t = ap (said_of t) past

  pub falls_past : (start : ℕ) → falls_from start N row ≡ false
  unfolding falls_from
  falls_past start = rw past
