-- `start` meets its contract: what comes is all of the input. Assumes nothing.
use mathlib.Core.Path.{refl, ap}
use Rattle.report_held.specs.Input.{report_of, report_from}
use Rattle.report_held.specs.Promises.{resumed}
use Rattle.report_trees.specs.declared.Report.{Report}
use Rattle.report_held.proofs.start.Goals as goal

pub returns : goal.returns
unfolding resumed report_of
returns c = (refl, λ batch more. ap (λ (r : Report). report_from r more) c.empty.ensures)
