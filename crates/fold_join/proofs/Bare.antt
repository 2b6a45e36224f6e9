-- Encodings without windows: their fold has none, and to join them one by one is to join their fold.
-- Assumes nothing.
use mathlib.Core.Path.{◌≡◌, refl, sym, ap, ◌∙◌}
use mathlib.Core.Bool.{Bool}
use mathlib.Core.Logic.{inr}
use mathlib.Core.List.{List, [], ◌∷◌}
use Prim.Native.Nat.{◌+◌, ◌≤◌}
use native.Mathlib.Nat.{suc-mul}
use native.Mathlib.Omega.{arith}
use lib.ListN.{length}
use Rattle.record.specs.Tree.{Encoding, forest, windows, encoding, empty}
use Rattle.record.specs.WellFormed.{FineEncoding, nodes_in, rows_in}
use Rattle.join_trees.specs.Join.{join, fold_from, fold}
use Rattle.join_trees.proofs.Grouping.{grouping_exact}
use Rattle.join_trees.proofs.Units.{right_unit}
use Rattle.join_trees.proofs.Windowless.{join_windowless, along_rows, no_windows, join_plain}
use Rattle.fold_run.specs.Promises.{Bare}

module _ (g : Bool) where
  fold_from_bare : (S : Encoding) (Ps : List Encoding) → windows S ≡ [] → Bare Ps → windows (fold_from g S Ps) ≡ []
  fold_from_bare S [] s h = s
  fold_from_bare S (P ∷ Ps) s (p, h) = fold_from_bare (join g S P) Ps (ap windows (join_plain g S P (ap length s) (ap length p))) h

  pub fold_bare : (Ps : List Encoding) → Bare Ps → windows (fold g Ps) ≡ []
  fold_bare Ps h = fold_from_bare empty Ps refl h

  -- "if one of the three has no windows they are equal number for number", for each of them in turn
  fold_from_join : (S X : Encoding) (Ps : List Encoding) → Bare Ps → fold_from g (join g S X) Ps ≡ join g S (fold_from g X Ps)
  fold_from_join S X [] h = refl
  fold_from_join S X (P ∷ Ps) (p, h) = ap (λ (E : Encoding). fold_from g E Ps) (grouping_exact g S X P (inr (inr p))) ∙ fold_from_join S (join g X P) Ps h

  pub joined_at_once : (S : Encoding) (Ps : List Encoding) → FineEncoding S → Bare Ps → fold_from g S Ps ≡ join g S (fold g Ps)
  joined_at_once S Ps f h = ap (λ (E : Encoding). fold_from g E Ps) (sym (right_unit g S f)) ∙ fold_from_join S empty Ps h

-- ---- How much they take

pub bare_nodes : (E : Encoding) → windows E ≡ [] → nodes_in (forest (E ∷ [])) ≡ 1
bare_nodes E e = ap (λ (F : Encoding). nodes_in (forest (F ∷ []))) (no_windows E (ap length e))

-- a join has at least the rows of S and those of P beside them
pub rows_beside : (g : Bool) (S P : Encoding) → windows P ≡ [] → rows_in (forest (S ∷ [])) + rows_in (forest (P ∷ [])) ≤ rows_in (forest (join g S P ∷ []))
rows_beside g S P e =
    let r = P.rows in
    let is : P ≡ encoding r P.ranges [] = no_windows P (ap length e) in
    omega (arith, ap (λ (E : Encoding). rows_in (forest (E ∷ []))) is, ap (λ (E : Encoding). rows_in (forest (join g S E ∷ []))) is, ap rows_in (join_windowless g r P.ranges S), along_rows g r P.ranges (forest (S ∷ [])), suc-mul (nodes_in S.below + 0) (length r))
