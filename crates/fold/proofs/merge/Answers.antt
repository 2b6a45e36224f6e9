-- `merge` decides, and then writes or zeroes all. Assumes nothing.
use mathlib.Core.Path.{◌≡◌, refl, subst}
use Rattle.record.proofs.Working.{with_refused, with_zeros}
use Rattle.fold_check.specs.Promises.{Decided}
use Rattle.fold.proofs.Writing.{not_six, fold_asks, fold_writes}
use Rattle.fold.proofs.merge.Goals as goal

-- In each answer: what was decided, of the output and the working store that are lent.
pub write_fold-requires : goal.write_fold-requires
write_fold-requires c = fold_asks (subst (Decided _ _ _ _ _ _ _) c.in-Ok.is (c.decide-decision.ensures _ _ _ _ refl refl refl refl))

pub returns-in-Ok : goal.returns-in-Ok
returns-in-Ok c =
    let f = subst (Decided _ _ _ _ _ _ _) c.in-Ok.is (c.decide-decision.ensures _ _ _ _ refl refl refl refl) in
    fold_writes f (c.write_fold.ensures.writes_fold f.f f.stores) c.write_fold.ensures.zeroed

pub returns-in-OffsetTooLarge : goal.returns-in-OffsetTooLarge
returns-in-OffsetTooLarge c =
    let z = c.zero_all.ensures in
    let told = (subst (Decided _ _ _ _ _ _ _) c.in-Err.is (c.decide-decision.ensures _ _ _ _ refl refl refl refl)) in
    with_zeros (rw c.in-OffsetTooLarge.is at told) refl z.output z.working_store

pub returns-in_default : goal.returns-in_default
returns-in_default c =
    with_refused _ (subst (Decided _ _ _ _ _ _ _) c.in-Err.is (c.decide-decision.ensures _ _ _ _ refl refl refl refl)) (not_six _ c.in_default.not-OffsetTooLarge) refl refl refl refl refl
