-- `span` answers for the node's own rows, which stand after those of the nodes before it. Assumes nothing.
use mathlib.Core.Path.{◌≡◌, refl, sym, ap, ◌∙◌}
use native.Mathlib.Omega.{arith}
use borrow.Author.Rules.{rules}
use Rattle.std.specs.Prelude.{Err}
use Rattle.record_check.proofs.Checked.{any_there, refused_as}
use Rattle.lookup_texts.proofs.NodeSpan.{own_rows_within, span_malformed, span_past, span_there, span_missing}
use Rattle.lookup_texts.proofs.span.Goals as goal

pub returns-in_err-check_batch : goal.returns-in_err-check_batch
returns-in_err-check_batch c =
    let same : c.from_residual.result ≡ Err c.in_err-check_batch.field-0.0 = search rules in
    let shape = sym c.check_batch.ensures ∙ c.in_err-check_batch.was in
    same ∙ ap Err (refused_as _ shape) ∙ sym (span_malformed _ _ shape)

pub returns-then-nodes-at : goal.returns-then-nodes-at
returns-then-nodes-at c = sym (span_past (any_there _ _ _ (sym c.check_batch.ensures ∙ c.in_ok-check_batch.was)).1 _ c.if-nodes-at.true)

pub span_of-requires : goal.span_of-requires
span_of-requires c = omega (arith, own_rows_within (any_there _ _ _ (sym c.check_batch.ensures ∙ c.in_ok-check_batch.was)).1 _ c.if-nodes-at.false, c.rows_before-first.ensures)

pub returns-in_default : goal.returns-in_default
returns-in_default c =
    span_missing (any_there _ _ _ (sym c.check_batch.ensures ∙ c.in_ok-check_batch.was)).1 _ c.if-nodes-at.false c.rows_before-first.ensures refl c.span_of.ensures c.in_default.is

pub returns : goal.returns
returns c =
    span_there (any_there _ _ _ (sym c.check_batch.ensures ∙ c.in_ok-check_batch.was)).1 _ c.if-nodes-at.false c.rows_before-first.ensures refl c.span_of.ensures c.in-Some.is
