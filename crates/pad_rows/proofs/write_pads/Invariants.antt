-- `write_pads` writes new rows one after another. Assumes nothing.
use mathlib.Core.Path.{◌≡◌}
use lib.Seq.{sets}
use Rattle.pad_rows.specs.Promises.{pad_numbers}
use Rattle.pad_rows.proofs.write_pads.Given as goal

abbrev pub invariant-loop-k : goal.invariant-loop-k
invariant-loop-k l = l.out ≡ sets l.initial.out l.to (pad_numbers l.token l.k)
