-- `finish` meets its contract, by what is held when the input ends. Assumes nothing.
use mathlib.Core.Path.{ap, ◌∙◌}
use native.Mathlib.Omega.{arith}
use Rattle.std.specs.Prelude.{Err}
use Rattle.std.proofs.lemmas.Result.{err_from_is_err_and}
use Rattle.report_held.proofs.Settling.{ended_refused, ended_whole, ended_cut}
use Rattle.report_held.proofs.finish.Goals as goal

pub returns-in_err-report : goal.returns-in_err-report
returns-in_err-report c =
    let p = err_from_is_err_and c.from_residual.result c.from_residual.ensures.1 in
    p.1 ∙ ap Err p.2 ∙ ended_refused c.args.held c.args.batch.now c.requires.0 c.requires.1 c.in_err-report.was

pub returns-then-held-eq0 : goal.returns-then-held-eq0
returns-then-held-eq0 c =
    ended_whole c.args.held c.args.batch.now c.requires.0 c.requires.1 c.in_ok-report.was c.if-held-eq0.true

pub returns : goal.returns
returns c =
    ended_cut c.args.held c.args.batch.now c.requires.0 c.requires.1 c.in_ok-report.was (omega (arith, c.if-held-eq0.false))
