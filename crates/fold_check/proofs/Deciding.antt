-- What is decided of a batch that is to be folded: each refusal, and how much its fold takes.
-- Assumes nothing.
use mathlib.Core.Path.{◌≡◌, ap, ap₂, ◌∙◌}
use mathlib.Core.Bool.{Bool, true, false}
use mathlib.Core.List.{List, [], ◌∷◌}
use Prim.Native.Nat.{ℕ}
use lib.ListN.{length}
use Rattle.record.specs.Tree.{Forest, listed, forest}
use Rattle.record.specs.WellFormed.{Stores}
use Rattle.record.specs.Read.{Reading, malformed, holds, read}
use Rattle.record.specs.Outcome.{Room, refused}
use Rattle.record.specs.declared.Refusal.TheVariants.{NoRoom, OffsetTooLarge}
use Rattle.record_check.specs.Answers.{shape_of}
use Rattle.std.specs.Prelude.{Err}
use Rattle.record.specs.declared.Refusal.{Refusal}
use Rattle.join_trees.specs.Join.{fold}
use Rattle.join_trees.specs.Offsets.{fold_fits}
use Rattle.join_trees.specs.Outcomes.{fold_outcome}
use Rattle.join_trees.proofs.Outcomes.{fold_malformed, fold_of, fold_no_room, fold_too_large}
use Rattle.record_room.specs.declared.Size.{Size}
use Rattle.join_size.specs.Promises.{Sizes}
use Rattle.record_room.specs.Room.{has_room}
use Rattle.join_size.proofs.Sizes.{roomy_takes, roomy_room, not_roomy}
use Rattle.fold_check.specs.Promises.{FoldedBy}

-- ---- What was checked

pub decided_malformed : (g : Bool) (r : Reading) (out out' working working' : List ℕ) {k : Refusal} → shape_of r ≡ Err k → fold_outcome g r out out' working working' ≡ refused k
decided_malformed g malformed out out' working working' e = fold_malformed g out out' working working' ∙ ap refused (cc)
decided_malformed g (holds f) out out' working working' e = cc

-- ---- What is decided, of an output and a working store that are as long as was told

module _ {xs rs : List ℕ} {f : Forest} (s : Stores xs rs f) (g : Bool) (out out' working working' : List ℕ) {size : Size} (sized : Sizes (fold g (listed f)) size) {a b : ℕ} (p : length out ≡ a) (p' : length out' ≡ b) {c d : ℕ} (q : length working ≡ c) (q' : length working' ≡ d) where
  pub decided_no_room : has_room size a b ≡ false → fold_outcome g (read xs rs) out out' working working' ≡ refused NoRoom
  decided_no_room e = fold_of g out out' working working' s ∙ fold_no_room g out out' working working' (listed f) (λ r _. not_roomy sized out out' (ap₂ (has_room size) p p' ∙ e) r)

  pub decided_no_working : has_room size c d ≡ false → fold_outcome g (read xs rs) out out' working working' ≡ refused NoRoom
  decided_no_working e = fold_of g out out' working working' s ∙ fold_no_room g out out' working working' (listed f) (λ _ r. not_roomy sized working working' (ap₂ (has_room size) q q' ∙ e) r)

  module _ (e : has_room size a b ≡ true) (e' : has_room size c d ≡ true) where
    room : Room out out' (forest (fold g (listed f) ∷ []))
    room = roomy_room sized out out' (ap₂ (has_room size) p p' ∙ e)

    working_room : Room working working' (forest (fold g (listed f) ∷ []))
    working_room = roomy_room sized working working' (ap₂ (has_room size) q q' ∙ e')

    pub decided_too_large : fold_fits g (listed f) ≡ false → fold_outcome g (read xs rs) out out' working working' ≡ refused OffsetTooLarge
    decided_too_large t = fold_of g out out' working working' s ∙ fold_too_large g out out' working working' (listed f) room working_room t

    pub decided_fold : fold_fits g (listed f) ≡ true → FoldedBy g xs rs out out' working working' size.nodes size.rows
    decided_fold t =
        let k = roomy_takes sized out out' (ap₂ (has_room size) p p' ∙ e) in
        record { f = f; stores = s; within = t; room = room; working_room = working_room; nodes_taken = k.nodes; rows_taken = k.rows }
