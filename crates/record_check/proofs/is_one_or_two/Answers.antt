-- `is_one_or_two` says whether `read` reads one or two encodings, by the number that `check_batch` tells. Assumes nothing.
use mathlib.Core.Path.{refl, sym, ◌∙◌}
use borrow.Author.Tests.{eq-eqb, ne_eqb}
use Rattle.record_check.proofs.Told.{one_or_two_told}
use Rattle.record_check.proofs.is_one_or_two.Goals as goal

pub returns-then-n-eq1 : goal.returns-then-n-eq1
returns-then-n-eq1 c = one_or_two_told _ _ _ (sym c.in-Ok.is ∙ c.check_batch.ensures) (rw (eq-eqb _ 1 c.if-n-eq1.true))

pub returns-else-n-eq1 : goal.returns-else-n-eq1
returns-else-n-eq1 c = one_or_two_told _ _ _ (sym c.in-Ok.is ∙ c.check_batch.ensures) (rw (ne_eqb _ 1 c.if-n-eq1.false))

pub returns-in-Err : goal.returns-in-Err
returns-in-Err c = one_or_two_told _ _ _ (sym c.in-Err.is ∙ c.check_batch.ensures) refl
