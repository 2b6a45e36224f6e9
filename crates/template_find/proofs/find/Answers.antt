-- `find` meets its contract. The loop's invariant, `Searching`: no entry passed has the id. Assumes nothing.
use mathlib.Core.Path.{ap, sym, ◌∙◌}
use Rattle.template_find.specs.Promises.{entry_answer}
use Rattle.template_entries.proofs.Entries.{entries_number}
use Rattle.template_find.proofs.Finding.{search_start, search_on, search_found, search_end}
use Rattle.template_find.proofs.find.Goals as goal

pub loop-i-init : goal.loop-i-init
loop-i-init c = search_start _ _ _ (sym (entries_number _))

pub returns-then-has_id : goal.returns-then-has_id
unfolding entry_answer
returns-then-has_id c = ap entry_answer (sym (search_found _ _ _ c.loop-i.invariant c.loop-i-test.true (sym c.has_id.ensures ∙ c.if-has_id.true)))

pub loop-i-preserved : goal.loop-i-preserved
loop-i-preserved c = search_on _ _ _ c.loop-i.invariant c.loop-i-test.true (sym c.has_id.ensures ∙ c.if-has_id.false)

pub returns : goal.returns
unfolding entry_answer
returns c = ap entry_answer (sym (search_end _ _ _ c.loop-i.invariant c.loop-i-test.false))
