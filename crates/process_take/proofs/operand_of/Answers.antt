-- `operand_of`: the operand of each kind of step. Assumes nothing.
use mathlib.Core.Path.{sym, ap, ◌∙◌, subst}
use Rattle.template_entries.specs.declared.Members.{Members}
use Rattle.process_steps.specs.Promises.{EntryThere}
use Rattle.process_take.specs.Operand.{operand_of}
use Rattle.process_take.specs.declared.Operand.TheVariants.{Special}
use Rattle.process_take.proofs.operand_of.Goals as goal

pub members_of-members-requires : goal.members_of-members-requires
members_of-members-requires c = subst (EntryThere _) c.in-Special.is c.requires

pub returns-in-First : goal.returns-in-First
returns-in-First c = sym (ap (operand_of _ _) c.in-First.is)

pub returns-in-Second : goal.returns-in-Second
returns-in-Second c = sym (ap (operand_of _ _) c.in-Second.is)

pub returns-in-Special : goal.returns-in-Special
returns-in-Special c =
    ap (λ (r : Members). Special c.in-Special.type_id r.first r.count) c.members_of-members.ensures ∙ sym (ap (operand_of _ _) c.in-Special.is)
