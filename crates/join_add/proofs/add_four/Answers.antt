-- `add_four` stores four sums, which are made before. Assumes nothing.
use native.Mathlib.Omega.{arith}
use lib.ListN.{length-set}
use Rattle.join_add.proofs.Added.{ask_sum, four_stored}
use Rattle.join_add.proofs.add_four.Goals as goal

pub sum_at-first-requires : goal.sum_at-first-requires
sum_at-first-requires c = ask_sum _ c.requires.0 (omega arith)

pub sum_at-second-requires : goal.sum_at-second-requires
sum_at-second-requires c = ask_sum _ c.requires.0 (omega arith)

pub sum_at-third-requires : goal.sum_at-third-requires
sum_at-third-requires c = ask_sum _ c.requires.0 (omega arith)

pub sum_at-fourth-requires : goal.sum_at-fourth-requires
sum_at-fourth-requires c = ask_sum _ c.requires.0 (omega arith)

pub bounds-dst-i : goal.bounds-dst-i
bounds-dst-i c = omega arith

pub bounds-dst-i-2 : goal.bounds-dst-i-2
bounds-dst-i-2 c = simp length-set (omega arith)

pub bounds-dst-i-3 : goal.bounds-dst-i-3
bounds-dst-i-3 c = simp length-set (omega arith)

pub bounds-dst-i-4 : goal.bounds-dst-i-4
bounds-dst-i-4 c = simp length-set (omega arith)

pub returns : goal.returns
returns c =
    let v = c.args in
    four_stored v.src.now v.more.now v.dst.now v.i c.sum_at-first.ensures c.sum_at-second.ensures c.sum_at-third.ensures c.sum_at-fourth.ensures
