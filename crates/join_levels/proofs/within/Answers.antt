-- `within` meets its contract.
-- Assumes nothing.
use native.Mathlib.Omega.{arith}
use mathlib.Core.Path.{sym}
use borrow.Author.Tests.{le-leb, lt-leb}
use Rattle.join_table.specs.Table.{sum_below}
use Rattle.join_table.proofs.Numbers.{below_past, below_left, below_end}
use Rattle.join_levels.proofs.within.Goals as goal

pub loop-i-init : goal.loop-i-init
unfolding sum_below
loop-i-init c = omega arith

pub returns-then-left-x : goal.returns-then-left-x
returns-then-left-x c = sym (lt-leb _ _ (below_past _ c.loop-i.i _ c.loop-i.left _ c.loop-i-test.true c.loop-i.invariant c.if-left-x.true))

pub loop-i-preserved : goal.loop-i-preserved
loop-i-preserved c = below_left _ c.loop-i.i c.loop-i.left _ c.loop-i.invariant c.if-left-x.false

pub returns : goal.returns
returns c = sym (le-leb _ _ (below_end _ c.loop-i.i _ c.loop-i.left _ c.loop-i.auto.i-end c.loop-i-test.false c.loop-i.invariant))
