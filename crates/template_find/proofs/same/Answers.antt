-- `same` meets its contract. Assumes nothing.
use mathlib.Core.Path.{◌∙◌}
use Rattle.template_find.proofs.Bytes.{same_pointwise}
use Rattle.template_find.proofs.same.Goals as goal

pub returns : goal.returns
returns c = c.eq.ensures ∙ same_pointwise c.args.a.now c.args.b.now
