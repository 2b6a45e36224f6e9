-- `entries_fit` meets its contract: every entry is tested. Assumes nothing.
use Rattle.template_entries.specs.Table.{entries_in, entry_ok}
use Rattle.template_entries.proofs.Checking.{Checking}
use Rattle.template_entries.proofs.entries_fit.Given as goal

abbrev pub invariant-loop-i : goal.invariant-loop-i
invariant-loop-i l = Checking (entry_ok l.members l.pool) (entries_in l.entries) l.i
