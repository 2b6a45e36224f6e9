-- `write_part` writes a stretch of rows as an encoding: its head and its numbers. Assumes nothing.
use Rattle.cut_windows.proofs.Parts.{part_put}
use Rattle.cut_windows.proofs.write_part.Goals as goal

pub returns : goal.returns
returns c =
    λ R r l. part_put r c.requires.forward l c.write_head.ensures c.copy.ensures
