-- `decide` checks, sizes, and tests the room and the offsets. Assumes nothing.
use mathlib.Core.Path.{◌≡◌, sym, ◌∙◌}
use borrow.Author.Rules.{rules}
use Rattle.std.specs.Prelude.{Err}
use Rattle.record_check.proofs.Checked.{batch_there}
use Rattle.fold_check.proofs.Deciding.{decided_malformed, decided_no_room, decided_no_working, decided_too_large, decided_fold}
use Rattle.fold_check.proofs.decide.Goals as goal

pub returns-in_err-count : goal.returns-in_err-count
returns-in_err-count c =
    let same : c.from_residual.result ≡ Err c.in_err-count.field-0.0 = search rules in
    λ out out' working working' _ _ _ _. rw same (decided_malformed _ _ out out' working working' (sym c.check_batch.ensures ∙ c.in_err-count.was))

-- past the first test there is a batch
pub fold_size-size-requires : goal.fold_size-size-requires
fold_size-size-requires c = let b = batch_there _ _ _ (sym c.check_batch.ensures ∙ c.in_ok-count.was) in record { f = b.0; stores = b.1; counts = b.2 }

pub returns-then-not-has_room : goal.returns-then-not-has_room
returns-then-not-has_room c = λ out out' working working' p p' q q'.
    let b = batch_there _ _ _ (sym c.check_batch.ensures ∙ c.in_ok-count.was) in
    decided_no_room b.1 _ out out' working working' (c.fold_size-size.ensures _ b.0 b.1) p p' q q' (sym c.has_room.ensures ∙ c.if-not-has_room.true)

pub returns-then-not-has_room-2 : goal.returns-then-not-has_room-2
returns-then-not-has_room-2 c = λ out out' working working' p p' q q'.
    let b = batch_there _ _ _ (sym c.check_batch.ensures ∙ c.in_ok-count.was) in
    decided_no_working b.1 _ out out' working working' (c.fold_size-size.ensures _ b.0 b.1) p p' q q' (sym c.has_room-2.ensures ∙ c.if-not-has_room-2.true)

pub fold_fits-requires : goal.fold_fits-requires
fold_fits-requires c = let b = batch_there _ _ _ (sym c.check_batch.ensures ∙ c.in_ok-count.was) in (b.0, b.1)

pub returns-then-not-fold_fits : goal.returns-then-not-fold_fits
returns-then-not-fold_fits c = λ out out' working working' p p' q q'.
    let b = batch_there _ _ _ (sym c.check_batch.ensures ∙ c.in_ok-count.was) in
    decided_too_large b.1 _ out out' working working' (c.fold_size-size.ensures _ b.0 b.1) p p' q q'
    (sym c.has_room.ensures ∙ c.if-not-has_room.false) (sym c.has_room-2.ensures ∙ c.if-not-has_room-2.false) (sym (c.fold_fits.ensures b.0 b.1) ∙ c.if-not-fold_fits.true)

pub returns : goal.returns
returns c = λ out out' working working' p p' q q'.
    let b = batch_there _ _ _ (sym c.check_batch.ensures ∙ c.in_ok-count.was) in
    decided_fold b.1 _ out out' working working' (c.fold_size-size.ensures _ b.0 b.1) p p' q q'
    (sym c.has_room.ensures ∙ c.if-not-has_room.false) (sym c.has_room-2.ensures ∙ c.if-not-has_room-2.false) (sym (c.fold_fits.ensures b.0 b.1) ∙ c.if-not-fold_fits.false)
