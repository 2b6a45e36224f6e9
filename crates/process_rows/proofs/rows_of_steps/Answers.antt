-- `rows_of_steps` adds up what each step joins. Assumes nothing.
use mathlib.Core.Option.{some}
use native.Mathlib.Omega.{arith}
use Rattle.process_rows.proofs.Alone.{alone_empty}
use Rattle.process_rows.proofs.Walked.{walked_start, steps_inside, walked_end}
use Rattle.process_rows.proofs.Turns.{step_there, rows_more}
use Rattle.process_rows.proofs.rows_of_steps.Goals as goal

pub rows_at-of_first-requires : goal.rows_at-of_first-requires
rows_at-of_first-requires c = let a = c.requires in record { there = some a.E; stands = a.steps_of.first_stands }

pub rows_at-of_second-requires : goal.rows_at-of_second-requires
rows_at-of_second-requires c = let a = c.requires in record { there = a.second; stands = a.steps_of.second_stands }

pub loop-i-init : goal.loop-i-init
loop-i-init c = (omega arith, λ members E o list h e f. walked_start list alone_empty)

pub step_at-step-requires : goal.step_at-step-requires
step_at-step-requires c = let a = c.requires in steps_inside _ a.steps_of c.loop-i-test.true

pub rows_of-requires : goal.rows_of-requires
rows_of-requires c = let a = c.requires in step_there a.steps_of c.loop-i-test.true c.step_at-step.ensures

pub overflow_add-rows : goal.overflow_add-rows
overflow_add-rows c =
    let a = c.requires in
    omega (arith, c.loop-i.invariant.0, c.loop-i-test.true, a.steps_of.few, c.rows_of.type_inv)

pub loop-i-preserved : goal.loop-i-preserved
loop-i-preserved c = (
  omega (arith, c.loop-i.invariant.0, c.rows_of.type_inv),
  λ members E o list h e f.
      rows_more h c.loop-i-test.true c.step_at-step.ensures c.rows_at-of_first.ensures c.rows_at-of_second.ensures e f c.rows_of.ensures (c.loop-i.invariant.1 members E o list h e f),
)

pub returns : goal.returns
returns c = λ members E o list h e f. walked_end _ h.counted (c.loop-i.invariant.1 members E o list h e f) c.loop-i-test.false
