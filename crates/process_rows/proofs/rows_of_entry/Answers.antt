-- `rows_of_entry` asks the table. Assumes nothing.
use mathlib.Core.Path.{ap}
use Rattle.template_entries.specs.declared.Members.{Members}
use Rattle.process_rows.proofs.rows_of_entry.Goals as goal

pub returns : goal.returns
returns c = ap (λ (m : Members). m.count) c.members_of-members.ensures
