-- `nodes_in` adds up the nodes of all levels. Assumes nothing.
use mathlib.Core.Path.{◌∙◌}
use native.Mathlib.Omega.{arith}
use Rattle.join_levels.proofs.Limits.{few_nodes_at}
use Rattle.join_levels_stored.proofs.Totals.{counts_nodes}
use Rattle.join_levels_stored.proofs.nodes_in.Goals as goal

pub sum-requires : goal.sum-requires
sum-requires c = λ i. omega (arith, few_nodes_at c.requires i)

pub returns : goal.returns
returns c = λ E o. c.sum.ensures ∙ counts_nodes c.requires E o
