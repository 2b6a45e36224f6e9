-- `size_of_steps` measures by profiles, or, where neither encoding has windows, by the rows. Assumes nothing.
use mathlib.Core.Path.{sym, ◌∙◌}
use mathlib.Core.Bool.{false}
use mathlib.Core.Option.{some}
use mathlib.Core.List.{map}
use borrow.Author.Tests.{eqb-true}
use Rattle.join_trees.specs.Join.{fold}
use Rattle.join_size.proofs.Sizes.{measured_profiled}
use Rattle.process_steps.specs.Steps.{step_encoding}
use Rattle.process_sizes.proofs.Alone.{alone_sizes}
use Rattle.process_sizes.proofs.size_of_steps.Goals as goal

pub is_windowless-requires : goal.is_windowless-requires
is_windowless-requires c = let a = c.requires in record { there = some a.E; stands = a.steps_of.first_stands }

pub is_windowless-requires-then-is_windowless : goal.is_windowless-requires-then-is_windowless
is_windowless-requires-then-is_windowless c = let a = c.requires in record { there = a.second; stands = a.steps_of.second_stands }

pub returns-then-is_windowless-2 : goal.returns-then-is_windowless-2
returns-then-is_windowless-2 c = λ members E o list h.
    alone_sizes (c.rows_of_steps-rows.ensures members E o list h
    (eqb-true _ _ (sym (c.is_windowless.ensures (some E) h.first_stands) ∙ c.if-is_windowless.true))
    (eqb-true _ _ (sym (c.is_windowless-then-is_windowless.ensures o h.second_stands) ∙ c.if-is_windowless-2.true)))

pub size_of-requires : goal.size_of-requires
size_of-requires c =
    let a = c.requires in
    measured_profiled _ _ (c.profile_of_steps.ensures a.members a.E a.second a.steps a.steps_of)

pub returns : goal.returns
returns c = λ members E o list h. c.size_of.ensures (fold false (map (step_encoding _ members E o) list)) (c.profile_of_steps.ensures members E o list h)
