-- `special_row` reads the three numbers of a member, and the row has them at their places. Assumes nothing.
use Rattle.template_entries.proofs.Entries.{member_is}
use Rattle.process_special_rows.proofs.special_row.Goals as goal

pub returns : goal.returns
returns c =
    rw (member_is c.args.members.now c.args.k c.requires)
