-- `read_request` reads field by field what its definition reads. Assumes nothing.
use borrow.Author.Rules.{rules}
use Rattle.std.specs.Prelude.{None}
use mathlib.Core.Path.{◌≡◌, sym, ◌∙◌}
use Rattle.listing_request.proofs.Fields.{asked_first, asked_second, asked_third, asked_none, asked_more, asked_left, asked_right, asked_other}
use Rattle.listing_request.proofs.read_request.Goals as goal

pub returns-in_err-rows : goal.returns-in_err-rows
returns-in_err-rows c =
    let same : c.from_residual.result ≡ None = search rules in
    same ∙ sym (asked_first _ (sym c.in_err-rows.was ∙ c.field.ensures))

pub returns-in_err-max : goal.returns-in_err-max
returns-in_err-max c =
    let same : c.from_residual-in_err-max.result ≡ None = search rules in
    same ∙ sym (asked_second _ (sym c.in_ok-rows.was ∙ c.field.ensures) (sym c.in_err-max.was ∙ c.field-2.ensures))

pub returns-in_err-stride : goal.returns-in_err-stride
returns-in_err-stride c =
    let same : c.from_residual-in_err-stride.result ≡ None = search rules in
    same ∙ sym (asked_third _ (sym c.in_ok-rows.was ∙ c.field.ensures) (sym c.in_ok-max.was ∙ c.field-2.ensures) (sym c.in_err-stride.was ∙ c.field-3.ensures))

pub returns-then-line-last : goal.returns-then-line-last
returns-then-line-last c =
    sym (asked_none _ (sym c.in_ok-rows.was ∙ c.field.ensures) (sym c.in_ok-max.was ∙ c.field-2.ensures) (sym c.in_ok-stride.was ∙ c.field-3.ensures) c.if-line-last.true)

pub returns-then-line-last-gt1 : goal.returns-then-line-last-gt1
returns-then-line-last-gt1 c =
    sym (asked_more _ (sym c.in_ok-rows.was ∙ c.field.ensures) (sym c.in_ok-max.was ∙ c.field-2.ensures) (sym c.in_ok-stride.was ∙ c.field-3.ensures) c.if-line-last-gt1.true)

pub returns-then-letter-eq76 : goal.returns-then-letter-eq76
returns-then-letter-eq76 c =
    c.few.ensures ∙ sym (asked_left _ (sym c.in_ok-rows.was ∙ c.field.ensures) (sym c.in_ok-max.was ∙ c.field-2.ensures) (sym c.in_ok-stride.was ∙ c.field-3.ensures) c.if-line-last.false c.if-line-last-gt1.false c.if-letter-eq76.true)

pub returns-then-letter-eq82 : goal.returns-then-letter-eq82
returns-then-letter-eq82 c =
    c.few-then-letter-eq82.ensures ∙ sym (asked_right _ (sym c.in_ok-rows.was ∙ c.field.ensures) (sym c.in_ok-max.was ∙ c.field-2.ensures) (sym c.in_ok-stride.was ∙ c.field-3.ensures) c.if-line-last.false c.if-line-last-gt1.false c.if-letter-eq76.false c.if-letter-eq82.true)

pub returns : goal.returns
returns c =
    sym (asked_other _ (sym c.in_ok-rows.was ∙ c.field.ensures) (sym c.in_ok-max.was ∙ c.field-2.ensures) (sym c.in_ok-stride.was ∙ c.field-3.ensures) c.if-line-last.false c.if-line-last-gt1.false c.if-letter-eq76.false c.if-letter-eq82.false)
