-- `report_all` is safe: what is held is always a part of a batch (`Partial`), and the stores keep their lengths. Assumes nothing.
use mathlib.Core.Path.{◌≡◌}
use lib.ListN.{length}
use Rattle.report_held.specs.Promises.{Partial}
use Rattle.report.proofs.report_all.Given as goal

abbrev pub invariant-loop : goal.invariant-loop
invariant-loop g l = record { partial : Partial l.batch l.held.bytes; batch_long : length l.batch ≡ length l.initial.batch; numbers_long : length l.numbers ≡ length l.initial.numbers }
