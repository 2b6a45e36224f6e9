-- `write_decision` writes the line that the decision on the cut asks. Assumes nothing.
use mathlib.Core.Path.{sym, ap, ◌∙◌}
use Rattle.listing.specs.Answer.{count_line}
use Rattle.listing_text.proofs.Wrote.{wrote_as}
use Rattle.listing.proofs.Choosing.{first_by_lem}
use Rattle.listing.proofs.write_decision.Goals as goal

pub returns-in-Whole : goal.returns-in-Whole
returns-in-Whole c = wrote_as (first_by_lem c.args.request (sym c.in-Whole.is ∙ c.decide-decision.ensures)) c.write_text.ensures

pub returns-in-Emptied : goal.returns-in-Emptied
returns-in-Emptied c =
    wrote_as (ap count_line c.count.ensures ∙ first_by_lem c.args.request (sym c.in-Emptied.is ∙ c.decide-decision.ensures)) c.write_count.ensures

pub returns-in-StrideRefused : goal.returns-in-StrideRefused
returns-in-StrideRefused c =
    wrote_as (first_by_lem c.args.request (sym c.in-StrideRefused.is ∙ c.decide-decision.ensures)) c.write_text-in-StrideRefused.ensures

pub returns-in-Windows : goal.returns-in-Windows
returns-in-Windows c =
    wrote_as (ap count_line c.count-in-Windows.ensures ∙ first_by_lem c.args.request (sym c.in-Windows.is ∙ c.decide-decision.ensures)) c.write_count-in-Windows.ensures
