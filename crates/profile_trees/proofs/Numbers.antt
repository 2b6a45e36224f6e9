-- The ranges of the node at a place by their numbers: how many there are, where each stands, and which rows it holds.
-- Assumes nothing.
use mathlib.Core.Path.{◌≡◌, refl, sym, ap, ◌∙◌}
use mathlib.Core.Logic.{◌⊎◌, inl, inr}
use mathlib.Core.Bool.{Bool, true, false}
use Prim.Native.Nat.{ℕ, ◌+◌, ◌*◌, ◌≤◌, ◌<◌}
use native.Mathlib.Nat.{add-zero}
use native.Mathlib.Omega.{arith}
use mathlib.Core.List.{List}
use lib.ListN.{length, get_or, drop, get_or-eq_default}
use lib.Seq.{drop-drop, get_or-drop}
use Rattle.record.specs.Tree.{Range, absent, sequences}
use Rattle.record.specs.Flat.{range_at}
use Rattle.record.specs.Passing.{ranges_at}
use Rattle.record.proofs.Several.{length_several, several_nth}
use Rattle.lookup_holding.specs.Holding.{holds_row}
use Rattle.profile_trees.proofs.Holders.{holds_facts, facts_hold}

-- ---- How many there are

pub places : (nodes : List ℕ) (i : ℕ) → length (ranges_at nodes i) ≡ sequences
places nodes i = length_several range_at 3 sequences (drop (i + 2) nodes)

pub past_absent : (nodes : List ℕ) (i k : ℕ) → sequences ≤ k → get_or (ranges_at nodes i) k absent ≡ absent
past_absent nodes i k o = get_or-eq_default (ranges_at nodes i) absent {n = k} (omega (arith, places nodes i))

-- ---- The numbers of range k

module _ (nodes : List ℕ) (i k : ℕ) (b : k < sequences) where
  range_is : get_or (ranges_at nodes i) k absent ≡ range_at (drop (i + 2 + k * 3) nodes)
  range_is = several_nth range_at 3 sequences (drop (i + 2) nodes) k absent b ∙ ap range_at (drop-drop (k * 3) (i + 2) nodes)

  pub mark_is : get_or nodes (i + 2 + k * 3) 0 ≡ (get_or (ranges_at nodes i) k absent).present
  unfolding range_at
  mark_is = sym (ap (λ (p : Range). p.present) range_is ∙ get_or-drop (i + 2 + k * 3) nodes 0 0 ∙ ap (λ (m : ℕ). get_or nodes m 0) (add-zero (i + 2 + k * 3)))

  pub start_is : get_or nodes (i + 2 + k * 3 + 1) 0 ≡ (get_or (ranges_at nodes i) k absent).start
  unfolding range_at
  start_is = sym (ap (λ (p : Range). p.start) range_is ∙ get_or-drop (i + 2 + k * 3) nodes 1 0)

  pub end_is : get_or nodes (i + 2 + k * 3 + 2) 0 ≡ (get_or (ranges_at nodes i) k absent).end
  unfolding range_at
  end_is = sym (ap (λ (p : Range). p.end) range_is ∙ get_or-drop (i + 2 + k * 3) nodes 2 0)

-- ---- Which rows range k holds

pub not_holds : (row : ℕ) (p : Range) → (p.present ≡ 1 → p.start ≤ row → row < p.end → ⊥) → holds_row row p ≡ false
not_holds row p n = go (holds_row row p) refl
  where
    go : (b : Bool) → holds_row row p ≡ b → b ≡ false
    go true b = let (m, s, e) = holds_facts row p b in absurd (n m s e)
    go false b = refl

module _ (nodes : List ℕ) (i k : ℕ) (b : k < sequences) (row : ℕ) where
  pub node_holds : get_or nodes (i + 2 + k * 3) 0 ≡ 1 → get_or nodes (i + 2 + k * 3 + 1) 0 ≤ row → row < get_or nodes (i + 2 + k * 3 + 2) 0 → holds_row row (get_or (ranges_at nodes i) k absent) ≡ true
  node_holds m s e =
      facts_hold row (get_or (ranges_at nodes i) k absent) (sym (mark_is nodes i k b) ∙ m) (omega (arith, start_is nodes i k b)) (omega (arith, end_is nodes i k b))

  pub node_holds_not : (get_or nodes (i + 2 + k * 3) 0 ≡ 1 → ⊥) ⊎ ((row < get_or nodes (i + 2 + k * 3 + 1) 0) ⊎ (get_or nodes (i + 2 + k * 3 + 2) 0 ≤ row)) → holds_row row (get_or (ranges_at nodes i) k absent) ≡ false
  node_holds_not (inl n) = not_holds row (get_or (ranges_at nodes i) k absent) (λ m s e. n (mark_is nodes i k b ∙ m))
  node_holds_not (inr (inl n)) = not_holds row (get_or (ranges_at nodes i) k absent) (λ m s e. omega (arith, start_is nodes i k b))
  node_holds_not (inr (inr n)) = not_holds row (get_or (ranges_at nodes i) k absent) (λ m s e. omega (arith, end_is nodes i k b))
