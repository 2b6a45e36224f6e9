-- `step` meets its contract.
-- Assumes nothing.
use native.Mathlib.Omega.{arith}
use mathlib.Core.Path.{ap₂}
use Prim.Native.Nat.{suc, ◌+◌}
use Rattle.join_table.specs.Table.{level_count}
use Rattle.join_table.proofs.Passes.{passed_none, passed_more, fits_first, fits_three}
use Rattle.join_table.proofs.step.Goals as goal

pub loop-k-init : goal.loop-k-init
loop-k-init c = passed_none _ _ c.requires.1

pub overflow_add-t-in-loop-k-2 : goal.overflow_add-t-in-loop-k-2
overflow_add-t-in-loop-k-2 c = record { fits = fits_first _ _ (fits_three _ _ _ (c.loop-k.invariant.left (c.loop-k.k + 1) (omega arith)) (c.loop-k.invariant.left (c.loop-k.k + level_count) (omega arith)) (c.loop-k.invariant.left (c.loop-k.k + suc level_count) (omega arith)) (c.requires.2 (c.loop-k.k + 1) (omega arith)) (c.requires.2 (c.loop-k.k + level_count) (omega arith)) (c.requires.2 (c.loop-k.k + suc level_count) (omega arith))) }

pub overflow_add-t-in-loop-k-4 : goal.overflow_add-t-in-loop-k-4
overflow_add-t-in-loop-k-4 c = record { fits = fits_three _ _ _ (c.loop-k.invariant.left (c.loop-k.k + 1) (omega arith)) (c.loop-k.invariant.left (c.loop-k.k + level_count) (omega arith)) (c.loop-k.invariant.left (c.loop-k.k + suc level_count) (omega arith)) (c.requires.2 (c.loop-k.k + 1) (omega arith)) (c.requires.2 (c.loop-k.k + level_count) (omega arith)) (c.requires.2 (c.loop-k.k + suc level_count) (omega arith)) }

pub loop-k-preserved : goal.loop-k-preserved
loop-k-preserved c = passed_more _ c.loop-k.invariant (omega arith) (ap₂ ◌+◌ (ap₂ ◌+◌ (c.loop-k.invariant.left (c.loop-k.k + 1) (omega arith)) (c.loop-k.invariant.left (c.loop-k.k + level_count) (omega arith))) (c.loop-k.invariant.left (c.loop-k.k + suc level_count) (omega arith)))

pub returns : goal.returns
returns c = (c.loop-k.invariant.len, λ k l. c.loop-k.invariant.done k (omega arith))
