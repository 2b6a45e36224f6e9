-- `check_template` asks one question after another. Assumes nothing.
use mathlib.Core.Path.{◌≡◌, sym, ◌∙◌}
use borrow.Author.Rules.{rules}
use Rattle.std.specs.Prelude.{Err}
use Rattle.process_template.proofs.Testing.{check_unread, check_lacking, check_unadded, check_known}
use Rattle.process_template.proofs.check_template.Goals as goal

pub returns-in_err-named : goal.returns-in_err-named
returns-in_err-named c =
    let same : c.from_residual.result ≡ Err c.in_err-named.field-0.0 = search rules in
    record { says = λ members table t. same ∙ check_unread table _ _ _ (sym c.sequences_in.ensures ∙ c.in_err-named.was) }

pub returns-then-lacks_second : goal.returns-then-lacks_second
returns-then-lacks_second c =
    record { says = λ members table t. check_lacking table _ _ _ (sym c.sequences_in.ensures ∙ c.in_ok-named.was) (sym c.lacks_second.ensures ∙ c.if-lacks_second.true) }

pub returns-then-not-add_special_tokens : goal.returns-then-not-add_special_tokens
returns-then-not-add_special_tokens c =
    record { says = λ members table t. check_unadded table _ _ _ (sym c.sequences_in.ensures ∙ c.in_ok-named.was) (sym c.lacks_second.ensures ∙ c.if-lacks_second.false) c.if-not-add_special_tokens.true }

pub returns : goal.returns
returns c =
    record { says = λ members table t. check_known table _ _ _ (sym c.sequences_in.ensures ∙ c.in_ok-named.was) (sym c.lacks_second.ensures ∙ c.if-lacks_second.false) c.if-not-add_special_tokens.false (λ pieces r. c.all_known.ensures.says members table pieces t r) }
