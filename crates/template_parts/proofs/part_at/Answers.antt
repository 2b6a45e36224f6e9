-- `part_at` meets its contract: a part reaches up to the next space. Assumes nothing.
use Rattle.template_parts.proofs.Parts.{none_left, step_is}
use Rattle.template_parts.proofs.part_at.Goals as goal

pub returns-then-text-at : goal.returns-then-text-at
returns-then-text-at c = rw (none_left _ _ c.if-text-at.true)

pub returns : goal.returns
returns c = step_is _ _ c.if-text-at.false c.find-end.ensures
