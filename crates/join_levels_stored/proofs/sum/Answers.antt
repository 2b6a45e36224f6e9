-- `sum` adds up all levels; no sum wraps, since each is within the limits. Assumes nothing.
use mathlib.Core.Path.{◌≡◌, refl}
use native.Mathlib.Omega.{arith}
use Rattle.join_table.specs.Table.{level_count, at, sum_below}
use Rattle.join_table.proofs.Numbers.{below_next}
use Rattle.join_levels_stored.proofs.sum.Goals as goal

pub loop-i-init : goal.loop-i-init
unfolding sum_below
loop-i-init c = (refl, omega arith)

pub overflow_add-all : goal.overflow_add-all
overflow_add-all c = omega (arith, c.requires c.loop-i.i)

pub loop-i-preserved : goal.loop-i-preserved
loop-i-preserved c = (omega (arith, below_next (at c.args.a) c.loop-i.i), omega (arith, c.requires c.loop-i.i))

pub returns : goal.returns
returns c = let e : c.loop-i.i ≡ level_count = omega arith in rw e at c.loop-i.invariant.0
