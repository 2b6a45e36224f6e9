-- `entries_fit` meets its contract: every entry is tested. Assumes nothing.
use mathlib.Core.Path.{sym, ◌∙◌}
use native.Mathlib.Omega.{arith}
use Rattle.template_entries.specs.Table.{no_entry}
use Rattle.template_entries.proofs.Checking.{check_start, check_on, check_fails, check_end}
use Rattle.template_entries.proofs.Entries.{entries_number}
use Rattle.template_entries.proofs.entries_fit.Goals as goal

pub loop-i-init : goal.loop-i-init
loop-i-init c = check_start _ _

pub returns-then-not-entry_fits : goal.returns-then-not-entry_fits
returns-then-not-entry_fits c = check_fails _ _ c.loop-i.invariant no_entry (omega (arith, entries_number c.args.entries.now)) (sym c.entry_fits.ensures ∙ c.if-not-entry_fits.true)

pub loop-i-preserved : goal.loop-i-preserved
loop-i-preserved c = check_on _ _ c.loop-i.invariant no_entry (omega (arith, entries_number c.args.entries.now)) (sym c.entry_fits.ensures ∙ c.if-not-entry_fits.false)

pub returns : goal.returns
returns c = check_end _ _ c.loop-i.invariant (omega (arith, entries_number c.args.entries.now, c.loop-i-test.false))
