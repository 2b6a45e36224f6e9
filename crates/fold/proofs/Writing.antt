-- What is decided of a fold and what is written, put together: the fold is done as its outcome says.
-- Assumes nothing.
use Rattle.std.specs.Prelude.{Ok}
use mathlib.Core.Path.{◌≡◌, refl, ap₂, ◌∙◌}
use mathlib.Core.Bool.{Bool, false}
use lib.Dec.{eqb}
use mathlib.Core.List.{List, [], ◌∷◌}
use Prim.Native.Nat.{ℕ}
use Rattle.record.specs.Refusals.{why_number, number_of}
use Rattle.record.specs.declared.Why.{Why}
use Rattle.record.specs.declared.Why.TheVariants.{MoreThanOneColon, BadTypeNumber, UnknownSequenceName}
use Rattle.record.specs.declared.Refusal.{Refusal}
use Rattle.record.specs.declared.Refusal.TheVariants.{MalformedRecord, NoRoom, Stride, SecondMissing, TooShort, OffsetTooLarge, TemplateTooLong, PairLacksAOrB, SpecialIdUnknown, BWithoutSecond, IdsAndTextsDiffer, SequenceIdAboveLast, TextOutsidePool, MalformedTable, NotText, OffsetPastEnd, OffsetInsideCharacter, PartUnreadable, TotalTooLarge}
use Rattle.record.specs.Tree.{listed, forest}
use Rattle.record.specs.WellFormed.{WellFormed}
use Rattle.record.specs.Read.{read}
use Rattle.record.specs.Standing.{Put}
use Rattle.record.specs.Working.{WritesWith, Zeroed}
use Rattle.record.proofs.Outcome.{writes_done, room_lengths}
use Rattle.record.proofs.Tree.{forest_listed}
use Rattle.record.proofs.Working.{with_done}
use Rattle.join_trees.specs.Join.{fold}
use Rattle.join_trees.specs.Outcomes.{fold_outcome}
use Rattle.join_trees.proofs.Folds.{fold_well}
use Rattle.join_trees.proofs.Outcomes.{fold_of, fold_done}
use Rattle.fold_each.specs.Promises.{AskFold}
use Rattle.fold_check.specs.Promises.{FoldedBy}

-- any refusal but the one for an offset has another number
pub not_six : (k : Refusal) → (k ≡ OffsetTooLarge → ⊥) → eqb (number_of k) 6 ≡ false
not_six MalformedRecord n = refl
not_six NoRoom n = refl
not_six Stride n = refl
not_six SecondMissing n = refl
not_six TooShort n = refl
not_six OffsetTooLarge n = absurd (n refl)
not_six TemplateTooLong n = refl
not_six PairLacksAOrB n = refl
not_six SpecialIdUnknown n = refl
not_six BWithoutSecond n = refl
not_six IdsAndTextsDiffer n = refl
not_six SequenceIdAboveLast n = refl
not_six TextOutsidePool n = refl
not_six MalformedTable n = refl
not_six NotText n = refl
not_six OffsetPastEnd n = refl
not_six OffsetInsideCharacter n = refl
not_six (PartUnreadable fault) n = go fault.why
  where
    go : (why : Why) → eqb (why_number why) 6 ≡ false
    go MoreThanOneColon = refl
    go BadTypeNumber = refl
    go UnknownSequenceName = refl
not_six TotalTooLarge n = refl

module _ {xs rs : List ℕ} {g : Bool} {out out' working working' : List ℕ} {n m : ℕ} (d : FoldedBy g xs rs out out' working working' n m) where
  pub fold_asks : AskFold xs rs g out out' working working'
  fold_asks = record { f = d.f; stores = d.stores; within = d.within; room = d.room; working_room = d.working_room }

  pub fold_writes : {out₁ out₁' working₁ working₁' : List ℕ} → Put (fold g (listed d.f) ∷ []) out 0 out' 0 out₁ out₁' → Zeroed working working' working₁ working₁'
      → WritesWith (fold_outcome g (read xs rs) out out' working working') (Ok (record { nodes = n; rows = m })) out out' working working' out₁ out₁' working₁ working₁'
  fold_writes put zero =
      let f = d.f in
      let F = forest (fold g (listed f) ∷ []) in
      let done = fold_of g out out' working working' d.stores ∙ fold_done g out out' working working' (listed f) d.room d.working_room d.within in
      let w : WellFormed F = fold_well g (listed f) (rw (forest_listed f) d.stores.well) d.room.fits in
      let l = room_lengths w.fine d.room in
      with_done F done (writes_done F done l.0 l.1 (ap₂ (λ (a b : ℕ). Ok (record { nodes = a; rows = b })) d.nodes_taken d.rows_taken) put.nodes_put put.rows_put) zero
