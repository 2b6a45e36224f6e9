-- `rows_fault` meets its contract. The loop's invariant, `Checking`: the rows from here on decide. Assumes nothing.
use mathlib.Core.Path.{sym, ◌∙◌}
use Rattle.offsets_check.proofs.Faults.{checking_start, checking_found, checking_next, checking_end}
use native.Mathlib.Omega.{arith}
use Rattle.offsets_check.proofs.rows_fault.Goals as goal

pub loop-i-init : goal.loop-i-init
loop-i-init c = checking_start _ _ _

pub row_fault-fault-requires : goal.row_fault-fault-requires
row_fault-fault-requires c = (c.requires.0, omega arith)

pub returns-then-is_some : goal.returns-then-is_some
returns-then-is_some c =
    checking_found c.loop-i.invariant _ c.loop-i-test.true c.row_fault-fault.ensures (sym c.is_some.ensures ∙ c.if-is_some.true)

pub loop-i-preserved : goal.loop-i-preserved
loop-i-preserved c =
    checking_next c.loop-i.invariant _ c.loop-i-test.true c.row_fault-fault.ensures (sym c.is_some.ensures ∙ c.if-is_some.false)

pub returns : goal.returns
returns c = checking_end c.loop-i.invariant c.loop-i-test.false
