-- `join_left` makes its two calls, the second on what the first left. Assumes nothing.
use Rattle.join_three.proofs.Ways.{stands}
use Rattle.join_three.proofs.join_left.Goals as goal

pub then_left-requires : goal.then_left-requires
then_left-requires c = stands c.merge_with-first.ensures

pub returns : goal.returns
returns c =
    let first = c.merge_with-first in
    record { first = first.result; a_with_b = first.ensures; ab_with_c = c.then_left.ensures.ab_with_c }
