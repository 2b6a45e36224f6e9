-- `add_numbers` hands on the first numbers and those after them. Assumes nothing.
use mathlib.Core.Path.{sym}
use lib.Seq.{length-take-le}
use native.Mathlib.Omega.{arith}
use Rattle.report_stored.proofs.add_numbers.Goals as goal

pub slice_bounds-report_add-end : goal.slice_bounds-report_add-end
slice_bounds-report_add-end c = sym (length-take-le _ _ (omega arith))
