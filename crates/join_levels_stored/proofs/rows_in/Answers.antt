-- `rows_in` adds up the rows of all levels. Assumes nothing.
use mathlib.Core.Path.{◌∙◌}
use Rattle.join_levels.proofs.Limits.{few_rows_at}
use Rattle.join_levels_stored.proofs.Totals.{counts_rows}
use Rattle.join_levels_stored.proofs.rows_in.Goals as goal

pub sum-requires : goal.sum-requires
sum-requires c = few_rows_at c.requires

pub returns : goal.returns
returns c = λ E o. c.sum.ensures ∙ counts_rows c.requires E o
