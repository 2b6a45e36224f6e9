-- `profile_of_rows` is that of one node. Assumes nothing.
use Rattle.process_sizes.proofs.Profiles.{alone_profile}
use Rattle.process_sizes.proofs.profile_of_rows.Goals as goal

pub returns : goal.returns
returns c = alone_profile _
