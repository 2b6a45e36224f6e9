-- `is_one` says whether `read` reads just one encoding, by the number that `check_batch` tells. Assumes nothing.
use mathlib.Core.Path.{refl, sym, ◌∙◌}
use Rattle.record_check.proofs.Told.{one_told}
use Rattle.record_check.proofs.is_one.Goals as goal

pub returns-in-Ok : goal.returns-in-Ok
returns-in-Ok c = one_told _ _ _ (sym c.in-Ok.is ∙ c.check_batch.ensures) refl

pub returns-in-Err : goal.returns-in-Err
returns-in-Err c = one_told _ _ _ (sym c.in-Err.is ∙ c.check_batch.ensures) refl
