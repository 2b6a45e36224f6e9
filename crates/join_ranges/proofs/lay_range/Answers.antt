-- `lay_range` writes P's range, shifted, if it is present. Assumes nothing.
use Rattle.join_ranges.proofs.Laying.{lays_none, lays_shifted}
use Rattle.join_ranges.proofs.lay_range.Goals as goal

pub returns-then-p_nodes-from-eq0 : goal.returns-then-p_nodes-from-eq0
returns-then-p_nodes-from-eq0 c = lays_none c.if-p_nodes-from-eq0.true

pub returns : goal.returns
returns c =
    lays_shifted c.if-p_nodes-from-eq0.false c.write_range.ensures
