-- `fill` meets its contract.
-- Assumes nothing.
use native.Mathlib.Omega.{arith}
use mathlib.Core.Path.{refl}
use Prim.Native.Nat.{◌*◌}
use Rattle.join_table.specs.Table.{level_count, paired}
use Rattle.join_table.proofs.Numbers.{product_fits}
use Rattle.join_table.proofs.Passes.{passed_more, passed_all, filled_none, fits_first, fits_second}
use Rattle.join_table.proofs.fill.Goals as goal

pub loop-k-init : goal.loop-k-init
loop-k-init c = filled_none (level_count * level_count) _

pub overflow_mul-t : goal.overflow_mul-t
overflow_mul-t c = record { fits = fits_first _ _ (product_fits _ _ _ _ c.requires.1 c.loop-k.k) }

pub overflow_mul-t-in-loop-k : goal.overflow_mul-t-in-loop-k
overflow_mul-t-in-loop-k c = record { fits = fits_second _ _ (product_fits _ _ _ _ c.requires.1 c.loop-k.k) }

pub overflow_add-t : goal.overflow_add-t
overflow_add-t c = record { fits = (product_fits _ _ _ _ c.requires.1 c.loop-k.k) }

pub loop-k-preserved : goal.loop-k-preserved
unfolding paired
loop-k-preserved c = passed_more _ c.loop-k.invariant (omega arith) refl

pub returns : goal.returns
returns c = passed_all c.loop-k.invariant (omega arith)

pub returns-2 : goal.returns-2
unfolding paired
returns-2 c = passed_all (passed_more _ c.loop-k.invariant (omega arith) refl) (omega arith)
