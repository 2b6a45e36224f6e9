-- `members_of` reads the two numbers. Assumes nothing.
use Rattle.template_entries.proofs.EntryMembers.{members_read}
use Rattle.template_entries.proofs.members_of.Goals as goal

pub returns : goal.returns
returns c = members_read _ _ c.requires
