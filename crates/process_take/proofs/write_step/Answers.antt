-- `write_step` joins one of the encodings, seen as its piece says, or special rows. Assumes nothing.
use mathlib.Core.Path.{sym, ◌∙◌}
use Rattle.process_take.proofs.Taking.{entry_there, take, took}
use Rattle.process_take.proofs.write_step.Goals as goal

pub operand_of-requires : goal.operand_of-requires
operand_of-requires c = entry_there c.requires

pub fold_step-requires : goal.fold_step-requires
fold_step-requires c =
    take _ (sym c.operand_of.ensures ∙ c.in-Stored.is) c.requires

pub append_special-requires : goal.append_special-requires
append_special-requires c =
    take _ (sym c.operand_of.ensures ∙ c.in-Special.is) c.requires

pub returns-in-Stored : goal.returns-in-Stored
returns-in-Stored c =
    took _ (sym c.operand_of.ensures ∙ c.in-Stored.is) c.fold_step.ensures

pub returns-in-Special : goal.returns-in-Special
returns-in-Special c =
    took _ (sym c.operand_of.ensures ∙ c.in-Special.is) c.append_special.ensures
