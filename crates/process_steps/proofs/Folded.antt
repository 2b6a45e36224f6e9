-- Pieces folded: there is no room, or they are written; and they are folded as module 5 folds encodings.
-- Assumes nothing.
use mathlib.Core.Path.{◌≡◌, sym, ◌∙◌}
use mathlib.Core.Bool.{true, false}
use mathlib.Core.Logic.{⊎_elim}
use mathlib.Core.List.{List, [], ◌∷◌}
use Prim.Native.Nat.{ℕ}
use Rattle.record.specs.Tree.{Forest, Encoding, forest}
use Rattle.record.specs.Outcome.{Room, refused, done}
use Rattle.record.specs.declared.Refusal.TheVariants.{NoRoom}
use Rattle.record.proofs.Outcome.{in_room_lem, no_room}
use Rattle.join_trees.specs.Join.{fold}
use Rattle.join_trees.specs.Offsets.{fold_fits}
use Rattle.join_trees.specs.Outcomes.{and_then, fold_into}
use Rattle.join_trees.proofs.Outcomes.{room_or_not, fold_no_room, fold_done}
use Rattle.process_steps.specs.Applied.{folded_into}

module _ (nodes rows working_nodes working_rows : List ℕ) (Ps : List Encoding) where
  abbrev F : Forest
  F = forest (fold false Ps ∷ [])

  -- the output or the working store does not hold it
  pub folded_no_room : (Room nodes rows F → Room working_nodes working_rows F → ⊥) → folded_into Ps nodes rows working_nodes working_rows ≡ refused NoRoom
  unfolding folded_into and_then
  folded_no_room h = ⊎_elim (λ r. rw (in_room_lem nodes rows F r, no_room working_nodes working_rows F (h r))) (λ n. rw (no_room nodes rows F n)) (room_or_not nodes rows F)

  pub folded_done : Room nodes rows F → Room working_nodes working_rows F → folded_into Ps nodes rows working_nodes working_rows ≡ done F
  unfolding folded_into and_then
  folded_done h w = rw (in_room_lem nodes rows F h, in_room_lem working_nodes working_rows F w)

  -- where no offset is past 32 bits it is the fold of module 5
  pub folded_still : fold_fits false Ps ≡ true → folded_into Ps nodes rows working_nodes working_rows ≡ fold_into false Ps nodes rows working_nodes working_rows
  folded_still e =
      ⊎_elim
      (λ r. ⊎_elim (λ w. folded_done r w ∙ sym (fold_done false nodes rows working_nodes working_rows Ps r w e)) (λ n. neither (λ _ w. n w)) (room_or_not working_nodes working_rows F))
      (λ n. neither (λ r _. n r))
      (room_or_not nodes rows F)
    where
      neither : (Room nodes rows F → Room working_nodes working_rows F → ⊥) → folded_into Ps nodes rows working_nodes working_rows ≡ fold_into false Ps nodes rows working_nodes working_rows
      neither h = folded_no_room h ∙ sym (fold_no_room false nodes rows working_nodes working_rows Ps h)
