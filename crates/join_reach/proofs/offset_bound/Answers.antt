-- `offset_bound` bounds the offsets: those of the rows passed in its loop, four in a turn, it bounds, and the few that are left
-- are bounded row by row. Assumes nothing.
use native.Mathlib.Omega.{arith}
use native.Mathlib.Numerals.{unary_clauses}
use Rattle.join_reach.proofs.Rows.{rows_long}
use Rattle.join_reach.proofs.Bounds.{bounded_start, bounded_four, still_to_come, bounded_all}
use Rattle.join_reach.proofs.offset_bound.Goals as goal

pub loop-k-init : goal.loop-k-init
loop-k-init c = record { inside = rows_long c.requires.1; passed = λ R h. simp unary_clauses (bounded_start h) }

pub loop-k-preserved : goal.loop-k-preserved
loop-k-preserved c = record { inside = c.loop-k.invariant.inside; passed = λ R h. bounded_four _ _ (c.loop-k.invariant.passed R h) (omega arith) (omega arith) (omega arith) c.bound_of_four-starts.ensures c.bound_of_four-ends.ensures }

pub bound_of_few-requires : goal.bound_of_few-requires
bound_of_few-requires c =
    let b = c.loop-k.invariant.passed c.requires.0 c.requires.1 in
    (b.to_come, still_to_come _ _ b (omega arith) (omega arith))

pub returns : goal.returns
returns c = λ R h.
    let b = c.loop-k.invariant.passed R h in
    bounded_all c.bound_of_few.result b (c.bound_of_few.ensures b.to_come (still_to_come _ _ b (omega arith) (omega arith)))
