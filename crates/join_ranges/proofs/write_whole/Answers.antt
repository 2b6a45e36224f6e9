-- `write_whole` writes the range of a sequence. Assumes nothing.
use Rattle.join_ranges.proofs.Setting.{makes_whole}
use Rattle.join_ranges.proofs.write_whole.Goals as goal

pub returns : goal.returns
returns c =
    makes_whole c.args.shift c.args.count c.requires.0 c.write_range.ensures
