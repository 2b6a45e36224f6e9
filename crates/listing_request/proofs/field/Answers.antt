-- `field` reads a number and tests the byte behind it. Assumes nothing.
use borrow.Author.Rules.{rules}
use Rattle.std.specs.Prelude.{None}
use mathlib.Core.Path.{◌≡◌, sym, ap, ◌∙◌}
use Rattle.listing_request.specs.Asked.{spaced}
use Rattle.listing_request.proofs.Fields.{spaced_space, spaced_other, spaced_end}
use Rattle.listing_request.proofs.field.Goals as goal

pub returns-in_err-number : goal.returns-in_err-number
returns-in_err-number c =
    let same : c.from_residual.result ≡ None = search rules in
    same ∙ ap (spaced c.args.line.now) (sym c.in_err-number.was ∙ c.read_number.ensures)

pub returns-then-line-next-eq-SPACE : goal.returns-then-line-next-eq-SPACE
returns-then-line-next-eq-SPACE c =
    spaced_space c.args.line.now c.in_ok-number.number c.if-next-line.true c.if-line-next-eq-SPACE.true
    ∙ ap (spaced c.args.line.now) (sym c.in_ok-number.was ∙ c.read_number.ensures)

pub returns-else-line-next-eq-SPACE : goal.returns-else-line-next-eq-SPACE
returns-else-line-next-eq-SPACE c =
    spaced_other c.args.line.now c.in_ok-number.number c.if-next-line.true c.if-line-next-eq-SPACE.false
    ∙ ap (spaced c.args.line.now) (sym c.in_ok-number.was ∙ c.read_number.ensures)

pub returns-else-next-line : goal.returns-else-next-line
returns-else-next-line c =
    spaced_end c.args.line.now c.in_ok-number.number c.if-next-line.false
    ∙ ap (spaced c.args.line.now) (sym c.in_ok-number.was ∙ c.read_number.ensures)
