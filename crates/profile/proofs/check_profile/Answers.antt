-- `check_profile` meets its contract: refused with 1, or what is told of the first break. Assumes nothing.
use mathlib.Core.Path.{sym, ap, ◌∙◌}
use Rattle.std.specs.Prelude.{Err}
use Rattle.std.proofs.lemmas.Result.{err_from_is_err_and}
use Rattle.record_check.proofs.Checked.{any_there}
use Rattle.profile.proofs.Answer.{says_so, answered_malformed, answered_passes, answered_breaks}
use Rattle.profile.proofs.check_profile.Goals as goal

pub returns-in_err-check_batch : goal.returns-in_err-check_batch
returns-in_err-check_batch c =
    let p = err_from_is_err_and c.from_residual.result c.from_residual.ensures.1 in
    let both = says_so _ _ _ (p.1 ∙ ap Err p.2 ∙ answered_malformed _ _ c.in_err-check_batch.ensures) in
    record { value = both.0; says = both.1 }

pub first_break-found-requires : goal.first_break-found-requires
first_break-found-requires c = any_there _ _ _ (sym c.in_ok-check_batch.ensures)

pub returns-then-found-eq-NO_RULE : goal.returns-then-found-eq-NO_RULE
returns-then-found-eq-NO_RULE c =
    let b = any_there _ _ _ (sym c.in_ok-check_batch.ensures) in
    let g = c.first_break-found in
    let both = says_so _ _ _ (answered_passes b.1 g.result (g.ensures b.0 b.1) c.if-found-eq-NO_RULE.true) in
    record { value = both.0; says = both.1 }

pub returns : goal.returns
returns c =
    let b = any_there _ _ _ (sym c.in_ok-check_batch.ensures) in
    let g = c.first_break-found in
    let both = says_so _ _ _ (answered_breaks b.1 g.result (g.ensures b.0 b.1) c.if-found-eq-NO_RULE.false) in
    record { value = both.0; says = both.1 }
