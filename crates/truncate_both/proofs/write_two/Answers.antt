-- `write_two` writes the first, and the second after it. Assumes nothing.
use native.Mathlib.Omega.{arith}
use Rattle.record.proofs.Here.{here_first}
use Rattle.record_extent.proofs.Pair.{few_held, second_here}
use Rattle.truncate_both.proofs.Placing.{first_asks, second_asks, two_put}
use Rattle.truncate_both.proofs.write_two.Goals as goal

pub write_truncated-requires : goal.write_truncated-requires
write_truncated-requires c = first_asks c.requires

pub overflow_mul-own : goal.overflow_mul-own
overflow_mul-own c = let q = c.requires.two in omega (arith, (few_held (here_first q.here) q.own_is).0)

pub overflow_mul-own-2 : goal.overflow_mul-own-2
overflow_mul-own-2 c = let q = c.requires.two in omega (arith, (few_held (here_first q.here) q.own_is).1)

pub write_truncated-requires-2 : goal.write_truncated-requires-2
write_truncated-requires-2 c = second_asks c.requires c.write_truncated.auto.out_nodes c.write_truncated.auto.out_rows

pub returns : goal.returns
returns c = λ E F t.
    two_put t c.args.direction (c.write_truncated.ensures E (here_first t.here) t.own_is) (c.write_truncated-2.ensures F (second_here t.here t.own_is) t.other_is)
