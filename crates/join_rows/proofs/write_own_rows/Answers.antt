-- `write_own_rows` copies S's rows, and P's after them. Assumes nothing.
use native.Mathlib.Omega.{arith}
use Rattle.join_rows.proofs.Moving.{own_asks, own_written}
use Rattle.join_rows.proofs.write_own_rows.Goals as goal

pub base_of-base-requires : goal.base_of-base-requires
base_of-base-requires c = c.requires.inside

pub copy_moved-requires : goal.copy_moved-requires
copy_moved-requires c =
    let ask = c.requires in
    (own_asks c.base_of-base.ensures ask, omega (arith, ask.fits, c.copy.auto.dst))

pub returns : goal.returns
returns c =
    own_written c.base_of-base.ensures c.args.view c.copy.ensures c.copy_moved.ensures
