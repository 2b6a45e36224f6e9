-- `members_fit` meets its contract: every member is tested. Assumes nothing.
use native.Mathlib.Omega.{arith}
use Rattle.template_entries.specs.Table.{no_member}
use Rattle.template_entries.proofs.Checking.{check_start, check_on, check_fails, check_end}
use Rattle.template_entries.proofs.Entries.{members_number, member_out, member_in}
use Rattle.template_entries.proofs.members_fit.Goals as goal

pub loop-i-init : goal.loop-i-init
loop-i-init c = check_start _ _

pub returns-then-end-pool : goal.returns-then-end-pool
returns-then-end-pool c =
    check_fails _ _ c.loop-i.invariant no_member (omega (arith, members_number c.args.members.now)) (member_out _ _ _ c.loop-i-test.true (omega (arith, c.if-end-pool.true, c.end_of-end.ensures)))

pub loop-i-preserved : goal.loop-i-preserved
loop-i-preserved c =
    check_on _ _ c.loop-i.invariant no_member (omega (arith, members_number c.args.members.now)) (member_in _ _ _ c.loop-i-test.true (omega (arith, c.if-end-pool.false, c.end_of-end.ensures)))

pub returns : goal.returns
returns c = check_end _ _ c.loop-i.invariant (omega (arith, members_number c.args.members.now, c.loop-i-test.false))
