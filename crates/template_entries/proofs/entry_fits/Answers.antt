-- `entry_fits` meets its contract. Assumes nothing.
use native.Mathlib.Omega.{arith}
use Rattle.template_entries.proofs.Entries.{entry_out, entry_in}
use Rattle.template_entries.proofs.entry_fits.Goals as goal

pub returns-then-end_of-pool : goal.returns-then-end_of-pool
returns-then-end_of-pool c = entry_out _ _ _ _ c.requires (omega (arith, c.if-end_of-pool.true, c.end_of.ensures))

pub returns : goal.returns
returns c = rw c.end_of-2.ensures (entry_in _ _ _ _ c.requires (omega (arith, c.if-end_of-pool.false, c.end_of.ensures)))
