-- `process` decides, and takes the steps. Assumes nothing.
use mathlib.Core.Path.{◌≡◌, refl, subst}
use borrow.Author.Rules.{rules}
use Rattle.std.specs.Prelude.{Err}
use Rattle.record.proofs.Working.{with_refused}
use Rattle.process_check.specs.Promises.{DecidesProcess}
use Rattle.process.proofs.process.Goals as goal

pub returns-in_err-second : goal.returns-in_err-second
returns-in_err-second c =
    let same : c.from_residual.result ≡ Err c.in_err-second.field-0.0 = search rules in
    let d = subst (DecidesProcess _ _ _ _ _ _) c.in_err-second.was c.decide.ensures in
    rw same (with_refused _ (d.told _ _ _ _) d.not_six refl refl refl refl refl)

pub apply_steps-requires : goal.apply_steps-requires
apply_steps-requires c =
    let d = subst (DecidesProcess _ _ _ _ _ _) c.in_ok-second.was c.decide.ensures in
    record { E = d.E; second = d.second; steps = d.steps; steps_here = d.steps_here }

pub returns : goal.returns
returns c =
    let d = subst (DecidesProcess _ _ _ _ _ _) c.in_ok-second.was c.decide.ensures in
    rw d.folded (c.apply_steps.ensures d.E d.second d.steps d.steps_here)
