-- `write_first` writes the line that a bad line gets, or that the decision asks. Assumes nothing.
use mathlib.Core.Path.{sym, ap, ◌∙◌}
use Rattle.listing.specs.Answer.{first_line}
use Rattle.listing_text.proofs.Wrote.{wrote_as}
use Rattle.listing.proofs.Choosing.{first_bad}
use Rattle.listing.proofs.write_first.Goals as goal

pub shape_of-out-in-None : goal.shape_of-out-in-None
shape_of-out-in-None c = c.write_text.auto.out

pub returns-in-None : goal.returns-in-None
returns-in-None c = wrote_as (first_bad ∙ ap first_line (sym c.in-None.is)) c.write_text.ensures

pub shape_of-out-in-Some : goal.shape_of-out-in-Some
shape_of-out-in-Some c = c.write_decision.auto.out

pub returns-in-Some : goal.returns-in-Some
returns-in-Some c = wrote_as (ap first_line (sym c.in-Some.is)) c.write_decision.ensures
