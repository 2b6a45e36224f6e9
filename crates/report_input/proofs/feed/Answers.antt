-- `feed` takes a piece step by step: after each, what is held says the same of the input (`Taking`). Assumes nothing.
use mathlib.Core.Path.{refl, ◌∙◌}
use Rattle.report_input.proofs.Pieces.{taking_start, taking_more, taking_end}
use native.Mathlib.Omega.{arith}
use Rattle.report_input.proofs.feed.Goals as goal

pub loop-step-init : goal.loop-step-init
loop-step-init c = (taking_start refl refl c.requires.partial, refl, refl)

pub next-step-requires : goal.next-step-requires
next-step-requires c =
    record {
      lent_stores = record { batch_long = c.loop-step.invariant.1 ∙ c.requires.lent_stores.batch_long; numbers_long = omega (arith, c.requires.lent_stores.numbers_long, c.loop-step.invariant.2) };
      partial = c.loop-step.invariant.0.partial;
      at_in_bounds = c.loop-step-test.true;
    }

pub loop-step-smaller : goal.loop-step-smaller
loop-step-smaller c = omega (arith, c.next-step.ensures.goes, c.next-step.ensures.inside)

pub loop-step-preserved : goal.loop-step-preserved
loop-step-preserved c =
    (taking_more c.loop-step.invariant.0 c.next-step.ensures, c.next-step.auto.batch ∙ c.loop-step.invariant.1, c.next-step.auto.numbers ∙ c.loop-step.invariant.2)

pub returns : goal.returns
returns c = taking_end c.loop-step.invariant.0 c.loop-step-test.false refl
