-- `join_both_ways` goes both ways, and what they leave is the same save for the order of windows. Assumes nothing.
use Rattle.join_grouping.proofs.Grouping.{both_same}
use Rattle.join_grouping.proofs.join_both_ways.Goals as goal

pub returns : goal.returns
returns c =
    let l = c.join_left-left.ensures in
    let r = c.join_right-right.ensures in
    record { left_way = l; right_way = r; same = λ n m i j e f. both_same (rw e at l) (rw f at r) }
