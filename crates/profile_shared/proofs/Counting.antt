-- Counting the ranges of a node that hold a row, one after another.
-- Assumes nothing.
use mathlib.Core.Path.{◌≡◌, refl, ap, ◌∙◌}
use mathlib.Core.Logic.{◌⊎◌}
use Prim.Native.Nat.{ℕ, ◌+◌, ◌*◌, ◌≤◌, ◌<◌}
use native.Mathlib.Numerals.{add-one}
use native.Mathlib.Omega.{arith}
use mathlib.Core.List.{List, [], ◌∷◌, ◌++◌}
use lib.ListN.{length, get_or, take}
use lib.Seq.{take-suc, take_all}
use Rattle.record.specs.Tree.{absent, sequences}
use Rattle.record.specs.Passing.{ranges_at}
use Rattle.profile_trees.specs.Rules.{holders}
use Rattle.profile_trees.proofs.Holders.{holders_append, holders_more, holders_same}
use Rattle.profile_trees.proofs.Numbers.{places, node_holds, node_holds_not}

-- The ranges before place k are counted.
pub record Counting (nodes : List ℕ) (i row count k : ℕ) : Type 0 where
  pub inside : k ≤ sequences
  pub few : count ≤ k
  pub counted : count ≡ holders row (take k (ranges_at nodes i))

pub counting_start : (nodes : List ℕ) (i row : ℕ) → Counting nodes i row 0 0
unfolding holders
counting_start nodes i row = record { inside = omega arith; few = omega arith; counted = refl }

module _ {nodes : List ℕ} {i row count k : ℕ} (h : Counting nodes i row count k) where
  one_further : k < sequences → holders row (take (k + 1) (ranges_at nodes i)) ≡ count + holders row (get_or (ranges_at nodes i) k absent ∷ [])
  one_further b =
      let there : k < length (ranges_at nodes i) = omega (arith, places nodes i) in
      let longer : take (k + 1) (ranges_at nodes i) ≡ take k (ranges_at nodes i) ++ (get_or (ranges_at nodes i) k absent ∷ []) = rw add-one (take-suc (ranges_at nodes i) k absent there) in
      omega (arith, h.counted, ap (holders row) longer, holders_append row (take k (ranges_at nodes i)) (get_or (ranges_at nodes i) k absent ∷ []))

  -- range k holds the row
  pub counting_more : k < sequences → get_or nodes (i + 2 + k * 3) 0 ≡ 1 → get_or nodes (i + 2 + k * 3 + 1) 0 ≤ row → row < get_or nodes (i + 2 + k * 3 + 2) 0 → Counting nodes i row (count + 1) (k + 1)
  unfolding holders
  counting_more b m s e =
      record {
        inside = omega arith;
        few = omega (arith, h.few);
        counted = omega (arith, one_further b, holders_more row (get_or (ranges_at nodes i) k absent) [] (node_holds nodes i k b row m s e));
      }

  -- range k is not there, or starts later, or ends no later than the row
  pub counting_same : k < sequences → (get_or nodes (i + 2 + k * 3) 0 ≡ 1 → ⊥) ⊎ ((row < get_or nodes (i + 2 + k * 3 + 1) 0) ⊎ (get_or nodes (i + 2 + k * 3 + 2) 0 ≤ row)) → Counting nodes i row count (k + 1)
  unfolding holders
  counting_same b o =
      record {
        inside = omega arith;
        few = omega (arith, h.few);
        counted = omega (arith, one_further b, holders_same row (get_or (ranges_at nodes i) k absent) [] (node_holds_not nodes i k b row o));
      }

  pub counting_end : sequences ≤ k → count ≡ holders row (ranges_at nodes i)
  counting_end o = h.counted ∙ ap (holders row) (take_all k (ranges_at nodes i) (omega (arith, places nodes i)))
