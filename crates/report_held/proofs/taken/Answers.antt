-- `taken` meets its contract, while the counts have not come and after that. Assumes nothing.
use Rattle.report_held.proofs.Settling.{partial_whole}
use native.Mathlib.Omega.{arith}
use Rattle.report_held.proofs.taken.Goals as goal

pub overflow_sub-stored_size : goal.overflow_sub-stored_size
overflow_sub-stored_size c =
    omega (arith, c.stored_size.ensures, partial_whole c.args.batch.now c.args.held c.requires.1 c.if-held-lt-HEAD.false)

pub returns : goal.returns
returns c =
    let p = partial_whole c.args.batch.now c.args.held c.requires.1 c.if-held-lt-HEAD.false in
    let e = c.stored_size.ensures in
    let m = c.min-2.ensures in
    record { some = omega (arith, e, m, p); there = omega (arith, m); counts = λ h. absurd (omega (arith, c.if-held-lt-HEAD.false)); whole = λ h. omega (arith, e, m, p); fits = omega (arith, e, m, p) }
