-- `noddrefyr_merge_with` hands on what `join::merge_with` answers. Assumes nothing.
use Rattle.c_crossing.proofs.Crossing.{writes_out}
use Rattle.c_join.proofs.noddrefyr_merge_with.Goals as goal

pub returns : goal.returns
returns c = writes_out c.merge_with-answer.ensures.promised c.told.ensures.refusal c.told.ensures.counts
