-- What becomes of steps that are to be taken: the refusal, and the result.
-- Assumes nothing.
use Rattle.std.specs.Prelude.{Ok}
use mathlib.Core.Path.{◌≡◌, ap₂}
use mathlib.Core.Bool.{true, false}
use mathlib.Core.Option.{Option, none as nothing, some}
use mathlib.Core.List.{List, [], ◌∷◌, map}
use Prim.Native.Nat.{ℕ, ◌≤◌}
use lib.ListN.{length, get_or}
use Rattle.record.specs.Tree.{Encoding, forest}
use Rattle.record.specs.WellFormed.{Fine}
use Rattle.record.specs.Standing.{Here, Put}
use Rattle.record.specs.Outcome.{refused}
use Rattle.record.specs.declared.Refusal.TheVariants.{NoRoom}
use Rattle.record.proofs.Outcome.{writes_done, room_lengths}
use Rattle.join_trees.specs.Join.{fold}
use Rattle.join_trees.specs.Offsets.{most_offset}
use Rattle.join_trees.proofs.Folds.{fold_fine}
use Rattle.record_room.specs.Room.{has_room}
use Rattle.join_levels_stored.specs.Promises.{EncodingAt}
use Rattle.record.specs.declared.Spot.{Spot}
use Rattle.record_room.specs.declared.Size.{Size}
use Rattle.join_size.specs.Promises.{Sizes}
use Rattle.record.specs.Working.{WritesWith, Zeroed}
use Rattle.join_size.proofs.Sizes.{roomy_takes, roomy_room, not_roomy}
use Rattle.record.proofs.Working.{with_done}
use Rattle.process_steps.specs.declared.Step.{Step}
use Rattle.process_steps.specs.Applied.{folded_into}
use Rattle.process_steps.specs.Steps.{step_encoding}
use Rattle.process_steps.proofs.Folded.{folded_no_room, folded_done}
use Rattle.process_rows.specs.Promises.{SecondStands, StepsOf}
use Rattle.process_steps.specs.Promises.{SecondHere, StepsHere}
use Rattle.process_write.specs.Promises.{Ready}
use Rattle.process_write.proofs.Encodings.{steps_fine, steps_fit_lem}

-- ---- What is measured

here_stands : {nodes rows : List ℕ} {i j : ℕ} {E : Encoding} → Here nodes rows i j (forest (E ∷ [])) → EncodingAt nodes i E
here_stands h = record { there = record { rest = h.at.rest; is = h.at.is }; well = h.well }

module _ {nodes rows : List ℕ} {s : Spot} {entries members numbers : List ℕ} {count : ℕ} {E : Encoding} {second : Option Encoding} {steps : List Step} (h : StepsHere nodes rows s entries members numbers count E second steps) where
  pub steps_of : StepsOf nodes s.node entries numbers count members E second steps
  steps_of =
      record {
        first_stands = here_stands h.inputs.first_here;
        second_stands = go second h.inputs.second_here;
        numbered = h.numbered;
        counted = h.counted;
        few = h.few;
        fine = h.fine;
      }
    where
      go : (second : Option Encoding) → SecondHere nodes rows s second → SecondStands nodes s.node second
      go nothing k = k
      go (some F) k = here_stands k

  -- ---- What is decided

  abbrev all : List Encoding
  all = map (step_encoding entries members E second) steps

  module _ (out out' working working' : List ℕ) {size : Size} (sized : Sizes (fold false all) size) where
    pub outcome_no_room : has_room size (length out) (length out') ≡ false → folded_into all out out' working working' ≡ refused NoRoom
    outcome_no_room e = folded_no_room out out' working working' all (λ r _. not_roomy sized out out' e r)

    pub outcome_no_working : has_room size (length working) (length working') ≡ false → folded_into all out out' working working' ≡ refused NoRoom
    outcome_no_working e = folded_no_room out out' working working' all (λ _ r. not_roomy sized working working' e r)

    module _ (e : has_room size (length out) (length out') ≡ true) where
      pub steps_ready : has_room size (length working) (length working') ≡ true → ((k : ℕ) → get_or rows k 0 ≤ most_offset) → Ready nodes rows s entries members numbers count out out' working working' E second steps
      steps_ready e' known = record { steps_here = h; within = steps_fit_lem entries members h.inputs known steps h.fine; room = roomy_room sized out out' e; working_room = roomy_room sized working working' e' }

      pub steps_done : {out₁ out₁' working₁ working₁' : List ℕ} → Ready nodes rows s entries members numbers count out out' working working' E second steps → Put (fold false all ∷ []) out 0 out' 0 out₁ out₁' → Zeroed working working' working₁ working₁'
          → WritesWith (folded_into all out out' working working') (Ok (record { nodes = size.nodes; rows = size.rows })) out out' working working' out₁ out₁' working₁ working₁'
      steps_done r put zero =
          let F = forest (fold false all ∷ []) in
          let done = folded_done out out' working working' all r.room r.working_room in
          let fine : Fine F = fold_fine false all (steps_fine entries members h.inputs steps h.fine) in
          let l = room_lengths fine r.room in
          let k = roomy_takes sized out out' e in
          with_done F done (writes_done F done l.0 l.1 (ap₂ (λ (a b : ℕ). Ok (record { nodes = a; rows = b })) k.nodes k.rows) put.nodes_put put.rows_put) zero
