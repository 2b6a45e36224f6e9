-- `empty_profile` is that of the empty encoding. Assumes nothing.
use Rattle.fold_levels.proofs.Folded.{empty_is}
use Rattle.fold_levels.proofs.empty_profile.Goals as goal

pub returns : goal.returns
returns c = empty_is
