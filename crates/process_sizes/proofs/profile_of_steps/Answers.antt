-- `profile_of_steps` measures what the steps give: each turn folds one more, and the first that is too large decides.
-- Assumes nothing.
use mathlib.Core.Option.{some}
use native.Mathlib.Omega.{arith}
use Rattle.process_sizes.proofs.Places.{place_profiled}
use Rattle.process_rows.proofs.Walked.{walked_start, steps_inside, walked_end}
use Rattle.process_sizes.proofs.Turns.{profile_more, profile_stop}
use Rattle.process_rows.proofs.Turns.{step_there}
use Rattle.process_sizes.proofs.profile_of_steps.Goals as goal

pub profile_of-of_first-requires : goal.profile_of-of_first-requires
profile_of-of_first-requires c = let a = c.requires in record { there = some a.E; stands = a.steps_of.first_stands }

pub profile_of-of_second-requires : goal.profile_of-of_second-requires
profile_of-of_second-requires c = let a = c.requires in record { there = a.second; stands = a.steps_of.second_stands }

pub loop-i-init : goal.loop-i-init
loop-i-init c = λ members E o list h. walked_start list (c.empty_profile-so_far.ensures, record { few_nodes = omega arith; few_rows = omega arith; few_levels = omega arith })

pub step_at-step-requires : goal.step_at-step-requires
step_at-step-requires c = let a = c.requires in steps_inside _ a.steps_of c.loop-i-test.true

pub with_step-requires : goal.with_step-requires
with_step-requires c =
    let a = c.requires in
    let h = a.steps_of in
    let (is, fits) = (c.loop-i.invariant a.members a.E a.second a.steps h).has in
    record {
      so_far_fits = record { E = _; is = is; fits = fits };
      first_fits = place_profiled _ _ (some a.E) h.first_stands c.profile_of-of_first.ensures;
      second_fits = place_profiled _ _ a.second h.second_stands c.profile_of-of_second.ensures;
      entry_there = step_there h c.loop-i-test.true c.step_at-step.ensures;
    }

pub returns-in_err-so_far : goal.returns-in_err-so_far
returns-in_err-so_far c = λ members E o list h.
    rw c.from_residual.ensures (profile_stop h c.loop-i-test.true c.step_at-step.ensures _ c.profile_of-of_first.ensures c.profile_of-of_second.ensures c.with_step.ensures (c.loop-i.invariant members E o list h) c.in_err-so_far.was)

pub loop-i-preserved : goal.loop-i-preserved
loop-i-preserved c = λ members E o list h.
    profile_more h c.loop-i-test.true c.step_at-step.ensures _ c.profile_of-of_first.ensures c.profile_of-of_second.ensures c.with_step.ensures (c.loop-i.invariant members E o list h) c.in_ok-so_far.was

pub returns : goal.returns
returns c = λ members E o list h. walked_end _ h.counted (c.loop-i.invariant members E o list h) c.loop-i-test.false
