-- `last_end` reads the last row's offset end. Assumes nothing.
use native.Mathlib.Omega.{arith}
use Prim.Native.Nat.{◌-◌}
use Rattle.join_reach.proofs.Rows.{rows_long, last_end_none, last_end_stored}
use Rattle.join_reach.proofs.last_end.Goals as goal

pub returns-then-count-eq0 : goal.returns-then-count-eq0
returns-then-count-eq0 c = λ R h. last_end_none R (omega (arith, h.counts))

pub overflow_mul-result : goal.overflow_mul-result
overflow_mul-result c = omega (arith, rows_long c.requires.1 (omega arith))

pub overflow_add-result : goal.overflow_add-result
overflow_add-result c = omega (arith, rows_long c.requires.1 (omega arith))

pub overflow_add-result-2 : goal.overflow_add-result-2
overflow_add-result-2 c = omega (arith, rows_long c.requires.1 (omega arith))

pub offset_bounds-rows-j : goal.offset_bounds-rows-j
offset_bounds-rows-j c = omega (arith, rows_long c.requires.1 (omega arith))

pub bounds-rows-j : goal.bounds-rows-j
bounds-rows-j c = omega (arith, rows_long c.requires.1 (omega arith))

pub returns : goal.returns
returns c = λ R h. last_end_stored R c.args.j (c.args.count - 1) h.there (omega (arith, h.counts))
