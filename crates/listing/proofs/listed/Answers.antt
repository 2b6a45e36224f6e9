-- `listed` answers the window at its place, by the decision on the cut. Assumes nothing.
use mathlib.Core.Path.{sym, ◌∙◌}
use Rattle.listing.proofs.Choosing.{window_by}
use Rattle.listing.proofs.listed.Goals as goal

pub returns-in-Whole : goal.returns-in-Whole
returns-in-Whole c = window_by c.args.request (sym c.in-Whole.is ∙ c.decide-decision.ensures) c.args.i

pub returns-in-Emptied : goal.returns-in-Emptied
returns-in-Emptied c = c.former.ensures ∙ window_by c.args.request (sym c.in-Emptied.is ∙ c.decide-decision.ensures) c.args.i

pub returns-in-StrideRefused : goal.returns-in-StrideRefused
returns-in-StrideRefused c = window_by c.args.request (sym c.in-StrideRefused.is ∙ c.decide-decision.ensures) c.args.i

pub returns-in-Windows : goal.returns-in-Windows
returns-in-Windows c = c.window.ensures ∙ window_by c.args.request (sym c.in-Windows.is ∙ c.decide-decision.ensures) c.args.i
