-- `bound_of_few` bounds the offsets: those of the rows passed in its loop it bounds, and the others are to come.
-- Assumes nothing.
use native.Mathlib.Omega.{arith}
use native.Mathlib.Numerals.{unary_clauses}
use Rattle.join_reach.proofs.Rows.{rows_long}
use Rattle.join_reach.proofs.Bounds.{bounded_start, bounded_one, bounded_end}
use Rattle.join_reach.proofs.bound_of_few.Goals as goal

pub loop-k-init : goal.loop-k-init
loop-k-init c = record { inside = rows_long c.requires.1; passed = λ R h. simp unary_clauses (bounded_start h) }

pub loop-k-preserved : goal.loop-k-preserved
loop-k-preserved c = record { inside = c.loop-k.invariant.inside; passed = λ R h. bounded_one _ _ (c.loop-k.invariant.passed R h) (omega arith) (omega arith) (omega arith) }

pub returns : goal.returns
returns c = λ R h. bounded_end (c.loop-k.invariant.passed R h) (omega arith)
