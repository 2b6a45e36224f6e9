-- `with_special` measures the join by the profile of the rows, unless they are too many by themselves. Assumes nothing.
use Rattle.process_sizes.proofs.Profiles.{alone_profiled, alone_many, alone_joined}
use Rattle.process_sizes.proofs.with_special.Goals as goal

pub returns-then-count-gt-MOST_ROWS : goal.returns-then-count-gt-MOST_ROWS
returns-then-count-gt-MOST_ROWS c = alone_many c.if-count-gt-MOST_ROWS.true

pub joined_profile-requires : goal.joined_profile-requires
joined_profile-requires c = (c.requires, alone_profiled _ c.if-count-gt-MOST_ROWS.false c.profile_of_rows-special.ensures)

pub returns : goal.returns
returns c = alone_joined _ c.profile_of_rows-special.ensures c.joined_profile.ensures
