-- `levels_of` meets its contract.
-- Assumes nothing.
use native.Mathlib.Omega.{arith}
use mathlib.Core.Path.{◌∙◌}
use Rattle.join_table.proofs.Numbers.{entry_fits, level}
use Rattle.join_table.proofs.levels_of.Goals as goal

pub fill-requires : goal.fill-requires
fill-requires c = (omega arith, c.requires.1)

pub descend-requires : goal.descend-requires
descend-requires c = (omega arith, entry_fits _ c.requires.1 c.fill.ensures)

pub returns : goal.returns
returns c = record { upto = λ d l. c.descend.ensures.upto d l ∙ level _ _ _ _ _ _ (omega arith) c.fill.ensures.upto d l; beyond = c.descend.ensures.beyond }
