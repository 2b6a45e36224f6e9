-- `read_numbers` meets its contract: what stands in `Gathering` of each way out of the loop. Assumes nothing.
use mathlib.Core.Path.{sym, ◌∙◌}
use native.Mathlib.Omega.{arith}
use Rattle.replay_cases.proofs.Gathering.{start, refused, ends_bad, ends_full, ends_good, ends_other, goes_on}
use Rattle.replay_cases.proofs.read_numbers.Goals as goal

pub loop-value-init : goal.loop-value-init
loop-value-init c = start _ _

pub returns-in_err-value : goal.returns-in_err-value
returns-in_err-value c =
    rw c.from_residual.ensures (refused _ _ _ (ends_bad _ _ _ _ _ c.loop-value.invariant (sym c.read_number.ensures ∙ c.in_err-value.was)))

pub returns-then-count-numbers : goal.returns-then-count-numbers
returns-then-count-numbers c =
    refused _ _ _ (ends_full _ _ _ _ _ c.loop-value.invariant _ _ (sym c.read_number.ensures ∙ c.in_ok-value.was) c.if-count-numbers.true)

pub returns-then-line-next : goal.returns-then-line-next
returns-then-line-next c =
    ends_good _ _ _ _ _ c.loop-value.invariant _ _ (sym c.read_number.ensures ∙ c.in_ok-value.was) (omega arith) c.if-line-next.true

pub returns-then-line-next-ne-SPACE : goal.returns-then-line-next-ne-SPACE
returns-then-line-next-ne-SPACE c =
    refused _ _ _ (ends_other _ _ _ _ _ c.loop-value.invariant _ _ (sym c.read_number.ensures ∙ c.in_ok-value.was) (omega arith) c.if-line-next.false c.if-line-next-ne-SPACE.true)

pub loop-value-preserved : goal.loop-value-preserved
loop-value-preserved c =
    goes_on _ _ _ _ _ c.loop-value.invariant _ _ (sym c.read_number.ensures ∙ c.in_ok-value.was) (omega arith) c.if-line-next.false c.if-line-next-ne-SPACE.false
