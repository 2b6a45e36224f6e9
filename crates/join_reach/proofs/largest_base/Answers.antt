-- `largest_base` finds the largest last offset end: of the nodes passed in its loop it is known, and the others are to come.
-- Assumes nothing.
use native.Mathlib.Omega.{arith}
use native.Mathlib.Numerals.{unary_clauses}
use Prim.Native.Nat.{◌+◌, ◌*◌, ◌-◌}
use mathlib.Core.Path.{refl}
use Rattle.record.specs.Flat.{node_width}
use Rattle.join_reach.proofs.Walk.{nodes_long, walked_start, walked_turn, walked_end}
use Rattle.join_reach.proofs.largest_base.Goals as goal

pub loop-k-init : goal.loop-k-init
loop-k-init c = record { inside = nodes_long c.requires.1; passed = λ f h. simp unary_clauses (walked_start h) }

pub last_end-requires : goal.last_end-requires
last_end-requires c = let u = walked_turn _ _ (c.loop-k.invariant.passed c.requires.0 c.requires.1) (omega arith) refl refl in (u.R, u.own)

pub loop-k-preserved : goal.loop-k-preserved
loop-k-preserved c =
    let k = c.loop-k.k in
    record {
      inside = c.loop-k.invariant.inside;
      passed = λ f h.
          let u = walked_turn (c.args.count - (k + 1)) (c.args.i + (k + 1) * node_width) (c.loop-k.invariant.passed f h) (omega arith) (omega arith) (omega arith) in
          rw (c.max-largest.ensures, c.last_end.ensures u.R u.own) u.after;
    }

pub returns : goal.returns
returns c = λ f h. walked_end (c.loop-k.invariant.passed f h) (omega arith)
