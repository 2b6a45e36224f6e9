-- `joined_profile` measures the join: each way out cites what the tables and the sums say. Assumes nothing.
use native.Mathlib.Omega.{arith}
use Rattle.join_levels.proofs.Limits.{few_levels_of, small_nodes, small_rows, too_deep, many_nodes, many_rows, fitting}
use Rattle.join_levels.proofs.joined_profile.Goals as goal

pub overflow_add-m : goal.overflow_add-m
overflow_add-m c = omega (arith, few_levels_of c.requires.0, few_levels_of c.requires.1)

pub returns-then-m-gt-MOST_LEVELS : goal.returns-then-m-gt-MOST_LEVELS
returns-then-m-gt-MOST_LEVELS c = λ g S P os op. too_deep g S P _ _ os op c.if-m-gt-MOST_LEVELS.true

pub levels_of-nodes-requires : goal.levels_of-nodes-requires
levels_of-nodes-requires c = (c.if-m-gt-MOST_LEVELS.false, small_nodes c.requires.0 c.requires.1)

pub levels_of-rows-requires : goal.levels_of-rows-requires
levels_of-rows-requires c = (c.if-m-gt-MOST_LEVELS.false, small_rows c.requires.0 c.requires.1)

pub returns-then-not-within : goal.returns-then-not-within
returns-then-not-within c = λ g S P os op.
    many_nodes g S P _ _ os op c.levels_of-nodes.ensures c.levels_of-rows.ensures c.within.ensures c.if-not-within.true

pub returns-then-not-within-2 : goal.returns-then-not-within-2
returns-then-not-within-2 c = λ g S P os op.
    many_rows g S P _ _ os op c.levels_of-nodes.ensures c.levels_of-rows.ensures c.within.ensures c.within-2.ensures c.if-not-within-2.true

pub returns : goal.returns
returns c = λ g S P os op.
    fitting g S P _ _ os op c.levels_of-nodes.ensures c.levels_of-rows.ensures c.within.ensures c.within-2.ensures c.if-not-within.false c.if-not-within-2.false c.if-m-gt-MOST_LEVELS.false
