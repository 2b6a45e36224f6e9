-- `find` meets its contract. The loop's invariant, `Searching`: no entry passed has the id. Assumes nothing.
use Rattle.template_entries.specs.Table.{no_entry, entries_in}
use Rattle.template_find.specs.Promises.{entry_has_id}
use Rattle.template_find.proofs.Finding.{Searching}
use Rattle.template_find.proofs.find.Given as goal

abbrev pub invariant-loop-i : goal.invariant-loop-i
invariant-loop-i l = Searching (entry_has_id l.added l.id) (entries_in l.entries) no_entry l.i
