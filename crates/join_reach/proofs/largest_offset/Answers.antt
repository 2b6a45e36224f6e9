-- `largest_offset` finds the largest offset: of the rows passed in its loop it is known, and the others are to come.
-- Assumes nothing.
use native.Mathlib.Omega.{arith}
use native.Mathlib.Numerals.{unary_clauses}
use Rattle.join_reach.proofs.Rows.{rows_long, scanned_start, scanned_turn, scanned_end}
use Rattle.join_reach.proofs.largest_offset.Goals as goal

pub loop-k-init : goal.loop-k-init
loop-k-init c = record { inside = rows_long c.requires.1; passed = λ R h. simp unary_clauses (scanned_start h) }

pub loop-k-preserved : goal.loop-k-preserved
loop-k-preserved c =
    record {
      inside = c.loop-k.invariant.inside;
      passed = λ R h. rw (c.max-largest.ensures, c.max-own.ensures) (scanned_turn _ _ (c.loop-k.invariant.passed R h) (omega arith) (omega arith) (omega arith));
    }

pub returns : goal.returns
returns c = λ R h. scanned_end (c.loop-k.invariant.passed R h) (omega arith)
