-- `members_fit` meets its contract: every member is tested. Assumes nothing.
use Rattle.template_entries.specs.Table.{members_in, member_ok}
use Rattle.template_entries.proofs.Checking.{Checking}
use Rattle.template_entries.proofs.members_fit.Given as goal

abbrev pub invariant-loop-i : goal.invariant-loop-i
invariant-loop-i l = Checking (member_ok l.pool) (members_in l.members) l.i
