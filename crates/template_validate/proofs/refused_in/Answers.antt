-- `refused_in` meets its contract. Assumes nothing.
use mathlib.Core.Path.{sym, ◌∙◌}
use Rattle.template_validate.proofs.Deciding.{refused_other, refused_part}
use Rattle.template_validate.proofs.refused_in.Goals as goal

pub returns-in-None : goal.returns-in-None
returns-in-None c = refused_other _ _ (sym c.fault.ensures ∙ c.in-None.is)

pub returns-in-Some : goal.returns-in-Some
returns-in-Some c = refused_part _ _ (sym c.fault.ensures ∙ c.in-Some.is)
