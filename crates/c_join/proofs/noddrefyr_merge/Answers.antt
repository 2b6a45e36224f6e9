-- `noddrefyr_merge` hands on what `fold::merge` answers. Assumes nothing.
use Rattle.c_crossing.proofs.Crossing.{writes_out_with}
use Rattle.c_join.proofs.noddrefyr_merge.Goals as goal

pub returns : goal.returns
returns c =
    let w = c.merge-answer.ensures in
    writes_out_with w.writes w.working_nodes_left w.working_rows_left c.told.ensures.refusal c.told.ensures.counts
