-- `rows_of`: the rows of each kind of step. Assumes nothing.
use mathlib.Core.Path.{sym, ap, ◌∙◌, subst}
use Rattle.process_steps.specs.Promises.{EntryThere}
use Rattle.process_rows.specs.Promises.{step_rows}
use Rattle.process_rows.proofs.rows_of.Goals as goal

pub rows_of_entry-requires : goal.rows_of_entry-requires
rows_of_entry-requires c = subst (EntryThere _) c.in-Special.is c.requires

pub returns-in-Special : goal.returns-in-Special
returns-in-Special c = c.rows_of_entry.ensures ∙ sym (ap (step_rows _ _ _) c.in-Special.is)
