-- `numbers_agree` meets its contract: every entry is tested. Assumes nothing.
use native.Mathlib.Omega.{arith}
use Rattle.template_entries.specs.Table.{no_entry}
use Rattle.template_entries.proofs.Checking.{check_start, check_on, check_fails, check_end}
use Rattle.template_entries.proofs.Entries.{entries_number, numbers_same, numbers_differ}
use Rattle.template_entries.proofs.numbers_agree.Goals as goal

pub loop-i-init : goal.loop-i-init
loop-i-init c = check_start _ _

pub returns-then-entries-at : goal.returns-then-entries-at
returns-then-entries-at c =
    check_fails _ _ c.loop-i.invariant no_entry (omega (arith, entries_number c.args.entries.now)) (numbers_differ _ _ c.loop-i-test.true c.if-entries-at.true)

pub loop-i-preserved : goal.loop-i-preserved
loop-i-preserved c =
    check_on _ _ c.loop-i.invariant no_entry (omega (arith, entries_number c.args.entries.now)) (numbers_same _ _ c.loop-i-test.true c.if-entries-at.false)

pub returns : goal.returns
returns c = check_end _ _ c.loop-i.invariant (omega (arith, entries_number c.args.entries.now, c.loop-i-test.false))
