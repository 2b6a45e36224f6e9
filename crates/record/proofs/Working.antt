-- How an operation meets its promise that leaves zeros, or that is lent a working store.
-- Assumes nothing.
use Rattle.std.specs.Prelude.{Result, Err}
use mathlib.Core.Path.{◌≡◌, ap, ◌∙◌}
use mathlib.Core.Bool.{false}
use mathlib.Core.List.{List}
use Prim.Native.Nat.{ℕ}
use lib.Dec.{eqb}
use lib.ListN.{length, replicate}
use Rattle.lists.specs.Lists.{zeros}
use Rattle.record.specs.Tree.{Forest}
use Rattle.record.specs.Refusals.{number_of}
use Rattle.record.specs.Outcome.{Outcome, refused, done, left, left_working, Writes}
use Rattle.record.specs.declared.Refusal.{Refusal}
use Rattle.record.specs.declared.Refusal.TheVariants.{OffsetTooLarge}
use Rattle.record.specs.declared.Written.{Written}
use Rattle.record.proofs.Outcome.{writes_refused}
use Rattle.record.specs.Working.{WritesWith, Zeroed}

-- "6 leaves output and working store all zeros"
pub writes_zeros : {o : Outcome} {answer : Result Written Refusal} {nodes rows nodes' rows' : List ℕ} → o ≡ refused OffsetTooLarge → answer ≡ Err OffsetTooLarge → nodes' ≡ zeros nodes → rows' ≡ zeros rows → Writes o answer nodes rows nodes' rows'
unfolding left
writes_zeros e a n r = rw e (record { answers = a; nodes_left = n; rows_left = r })

-- zeros go by lengths
pub zeroed_kept : {was was' nodes rows nodes₁ rows₁ : List ℕ} → length nodes ≡ length was → length rows ≡ length was' → Zeroed nodes rows nodes₁ rows₁ → Zeroed was was' nodes₁ rows₁
zeroed_kept a b z = record { nodes_zero = z.nodes_zero ∙ ap (λ (n : ℕ). replicate n 0) a; rows_zero = z.rows_zero ∙ ap (λ (n : ℕ). replicate n 0) b }

module _ {o : Outcome} {answer : Result Written Refusal} {nodes rows working working' nodes₁ rows₁ working₁ working₁' : List ℕ} where
  -- refused, save with 6: nothing has changed
  pub with_refused : (k : Refusal) → o ≡ refused k → eqb (number_of k) 6 ≡ false → answer ≡ Err k → nodes₁ ≡ nodes → rows₁ ≡ rows → working₁ ≡ working → working₁' ≡ working' → WritesWith o answer nodes rows working working' nodes₁ rows₁ working₁ working₁'
  unfolding left_working
  with_refused k e six a n r w w' = record { writes = writes_refused k e six a n r; working_nodes_left = w ∙ kept working; working_rows_left = w' ∙ kept working' }
    where
      kept : (was : List ℕ) → was ≡ left_working o was
      kept was = rw (e, six)

  -- refused with 6: "6 leaves output and working store all zeros"
  pub with_zeros : o ≡ refused OffsetTooLarge → answer ≡ Err OffsetTooLarge → Zeroed nodes rows nodes₁ rows₁ → Zeroed working working' working₁ working₁' → WritesWith o answer nodes rows working working' nodes₁ rows₁ working₁ working₁'
  unfolding left_working
  with_zeros e a z w = record { writes = writes_zeros e a z.nodes_zero z.rows_zero; working_nodes_left = rw e w.nodes_zero; working_rows_left = rw e w.rows_zero }

  -- done: "a working store is zeroed"
  pub with_done : (f : Forest) → o ≡ done f → Writes o answer nodes rows nodes₁ rows₁ → Zeroed working working' working₁ working₁' → WritesWith o answer nodes rows working working' nodes₁ rows₁ working₁ working₁'
  unfolding left_working
  with_done f e writes w = record { writes = writes; working_nodes_left = rw e w.nodes_zero; working_rows_left = rw e w.rows_zero }
