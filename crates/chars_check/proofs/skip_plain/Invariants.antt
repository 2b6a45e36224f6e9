-- `skip_plain` meets its contract, which is the loop's invariant too. Assumes nothing.
use Prim.Native.Nat.{◌-◌}
use Rattle.chars_check.specs.Promises.{PlainSkipped}
use Rattle.chars_check.proofs.skip_plain.Given as goal

abbrev pub invariant-loop-at : goal.invariant-loop-at
invariant-loop-at l = PlainSkipped l.text l.from l.to l.at
