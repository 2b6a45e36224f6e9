-- `join_after` joins into the working store and copies the result over what was in the output. Assumes nothing.
use Rattle.fold_over.proofs.Over.{copied_back}
use Rattle.fold_after.proofs.join_after.Goals as goal

pub returns : goal.returns
returns c = copied_back c.requires c.join_nodes-end.ensures c.copy.ensures c.copy-2.ensures
