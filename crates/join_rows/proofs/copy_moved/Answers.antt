-- `copy_moved` copies the block as its offsets move, and changes in it what the view sets. Assumes nothing.
use Rattle.join_rows.proofs.Moving.{makes_moved}
use Rattle.join_rows.proofs.copy_moved.Goals as goal

pub copy_shifted-requires : goal.copy_shifted-requires
copy_shifted-requires c =
    let a = c.requires.0 in
    record { R = a.R; there = a.there; size = a.size; within = a.within; inside = a.inside; fits = c.requires.1 }

pub returns : goal.returns
returns c =
    makes_moved c.args.view c.args.n c.requires.1 c.copy_shifted.ensures c.view_types.ensures
