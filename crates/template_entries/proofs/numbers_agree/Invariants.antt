-- `numbers_agree` meets its contract: every entry is tested. Assumes nothing.
use Rattle.template_entries.specs.Table.{entries_in, agrees}
use Rattle.template_entries.proofs.Checking.{Checking}
use Rattle.template_entries.proofs.numbers_agree.Given as goal

abbrev pub invariant-loop-i : goal.invariant-loop-i
invariant-loop-i l = Checking agrees (entries_in l.entries) l.i
