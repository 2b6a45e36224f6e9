-- `count` counts what is listed, by the decision on the cut. Assumes nothing.
use mathlib.Core.Path.{sym, ◌∙◌}
use Rattle.listing.proofs.Choosing.{count_by, windows_listed_lem}
use Rattle.listing.proofs.count.Goals as goal

pub returns-in-Whole : goal.returns-in-Whole
returns-in-Whole c = count_by c.args.request (sym c.in-Whole.is ∙ c.decide-decision.ensures)

pub returns-in-Emptied : goal.returns-in-Emptied
returns-in-Emptied c = count_by c.args.request (sym c.in-Emptied.is ∙ c.decide-decision.ensures)

pub returns-in-StrideRefused : goal.returns-in-StrideRefused
returns-in-StrideRefused c = count_by c.args.request (sym c.in-StrideRefused.is ∙ c.decide-decision.ensures)

pub returns-in-Windows : goal.returns-in-Windows
returns-in-Windows c = windows_listed_lem c.args.request (sym c.in-Windows.is ∙ c.decide-decision.ensures)
