-- `profile_of` takes the profile of what stands at the place, if that is inside. Assumes nothing.
use Rattle.process_sizes.proofs.Places.{place_standing, profile_there, profile_past}
use Rattle.process_sizes.proofs.profile_of.Goals as goal

pub profile_at-requires : goal.profile_at-requires
profile_at-requires c = let a = c.requires in place_standing _ _ c.if-at-nodes.true a.there a.stands

pub returns-then-at-nodes : goal.returns-then-at-nodes
returns-then-at-nodes c = profile_there _ _ c.if-at-nodes.true c.profile_at.ensures

pub returns : goal.returns
returns c = profile_past _ _ c.if-at-nodes.false c.empty_profile.ensures
