-- `lay_ranges` lays the ranges that P has, and then the one that the view sets. Assumes nothing.
use Rattle.join_ranges.proofs.Nodes.{node_count_lem}
use Rattle.join_ranges.proofs.Setting.{lays_seen}
use native.Mathlib.Omega.{arith}
use Rattle.join_ranges.proofs.lay_ranges.Goals as goal

pub view_range-requires : goal.view_range-requires
view_range-requires c =
    let ask = c.requires in
    (ask.view_fine, omega (arith, ask.fits, c.lay_present.auto), omega (arith, ask.few_rows, node_count_lem ask.there))

pub returns : goal.returns
returns c =
    lays_seen c.args.view c.requires.fits c.lay_present.ensures c.view_range.ensures
