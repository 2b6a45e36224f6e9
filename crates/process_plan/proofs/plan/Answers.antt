-- `plan` meets its contract. The loop's invariant, `Planning`: the steps of the pieces passed have been written. The measure is
-- what is left of the text. Assumes nothing.
use mathlib.Core.Path.{◌≡◌, ap, sym, ◌∙◌}
use borrow.Author.Rules.{rules}
use native.Mathlib.Omega.{arith}
use Rattle.std.specs.Prelude.{Ok, Err}
use Rattle.process_plan.proofs.Next.{next_says, says_step}
use Rattle.process_plan.proofs.Planning.{plan_start, plan_end, plan_refused, plan_few, plan_room, plan_left, plan_step}
use Rattle.process_plan.proofs.plan.Goals as goal

pub loop-coming-init : goal.loop-coming-init
loop-coming-init c = plan_start _ _ _ _ _

pub returns-in_err-coming : goal.returns-in_err-coming
returns-in_err-coming c =
    let same : c.from_residual.result ≡ Err c.in_err-coming.field-0.0 = search rules in
    rw same (plan_refused c.loop-coming.invariant (next_says _ _ _ c.loop-coming.invariant.walked (sym c.next_step.ensures ∙ c.in_err-coming.was)))

pub returns-in_default : goal.returns-in_default
returns-in_default c = plan_end c.loop-coming.invariant c.requires (next_says _ _ _ c.loop-coming.invariant.walked (sym c.next_step.ensures ∙ c.in_ok-coming.was ∙ ap Ok c.in_default.is))

pub write_step-requires : goal.write_step-requires
write_step-requires c = plan_room c.loop-coming.invariant (says_step _ _ _ c.loop-coming.invariant.walked (sym c.next_step.ensures ∙ c.in_ok-coming.was ∙ ap Ok c.in-Some.is) c.in-Some-step.is) c.requires

pub overflow_add-count : goal.overflow_add-count
overflow_add-count c = omega (arith, plan_few c.loop-coming.invariant (says_step _ _ _ c.loop-coming.invariant.walked (sym c.next_step.ensures ∙ c.in_ok-coming.was ∙ ap Ok c.in-Some.is) c.in-Some-step.is) c.requires)

pub loop-coming-smaller-in-Some-step : goal.loop-coming-smaller-in-Some-step
loop-coming-smaller-in-Some-step c = (says_step _ _ _ c.loop-coming.invariant.walked (sym c.next_step.ensures ∙ c.in_ok-coming.was ∙ ap Ok c.in-Some.is) c.in-Some-step.is).less

pub loop-coming-preserved-in-Some-step : goal.loop-coming-preserved-in-Some-step
loop-coming-preserved-in-Some-step c = plan_step c.loop-coming.invariant (says_step _ _ _ c.loop-coming.invariant.walked (sym c.next_step.ensures ∙ c.in_ok-coming.was ∙ ap Ok c.in-Some.is) c.in-Some-step.is) c.write_step.ensures

pub loop-coming-smaller : goal.loop-coming-smaller
loop-coming-smaller c = (says_step _ _ _ c.loop-coming.invariant.walked (sym c.next_step.ensures ∙ c.in_ok-coming.was ∙ ap Ok c.in-Some.is) c.in_default-step.is).less

pub loop-coming-preserved : goal.loop-coming-preserved
loop-coming-preserved c = plan_left c.loop-coming.invariant (says_step _ _ _ c.loop-coming.invariant.walked (sym c.next_step.ensures ∙ c.in_ok-coming.was ∙ ap Ok c.in-Some.is) c.in_default-step.is)
