-- `join_right` makes its two calls, the second on what the first left. Assumes nothing.
use Rattle.join_three.proofs.Ways.{stands}
use Rattle.join_three.proofs.join_right.Goals as goal

pub then_right-requires : goal.then_right-requires
then_right-requires c = stands c.merge_with-first.ensures

pub returns : goal.returns
returns c =
    let first = c.merge_with-first in
    record { first = first.result; b_with_c = first.ensures; a_with_bc = c.then_right.ensures.a_with_bc }
