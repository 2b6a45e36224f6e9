-- `text` answers by the numbers of the row, which stand where the batch that was checked stores them. Assumes nothing.
use mathlib.Core.Path.{◌≡◌, sym, ap, ◌∙◌}
use native.Mathlib.Omega.{arith}
use borrow.Author.Rules.{rules}
use lib.ListN.{length}
use Rattle.std.specs.Prelude.{Err}
use Rattle.record_check.proofs.Checked.{any_there, refused_as}
use Rattle.lookup_texts.proofs.RowText.{row_whole, text_malformed, text_past, text_inside_lem, text_outside}
use Rattle.lookup_texts.proofs.text.Goals as goal

pub returns-in_err-check_batch : goal.returns-in_err-check_batch
returns-in_err-check_batch c =
    let same : c.from_residual.result ≡ Err c.in_err-check_batch.field-0.0 = search rules in
    let shape = sym c.check_batch.ensures ∙ c.in_err-check_batch.was in
    same ∙ ap Err (refused_as _ shape) ∙ sym (text_malformed _ _ _ _ shape)

pub returns-then-rows-at : goal.returns-then-rows-at
returns-then-rows-at c = sym (text_past (any_there _ _ _ (sym c.check_batch.ensures ∙ c.in_ok-check_batch.was)).1 _ _ _ c.if-rows-at.true)

pub bounds-rows-at : goal.bounds-rows-at
bounds-rows-at c = omega (arith, row_whole (any_there _ _ _ (sym c.check_batch.ensures ∙ c.in_ok-check_batch.was)).1 _ c.if-rows-at.false)

pub bounds-rows-at-2 : goal.bounds-rows-at-2
bounds-rows-at-2 c = omega (arith, row_whole (any_there _ _ _ (sym c.check_batch.ensures ∙ c.in_ok-check_batch.was)).1 _ c.if-rows-at.false)

pub bounds-rows-at-3 : goal.bounds-rows-at-3
bounds-rows-at-3 c = omega (arith, row_whole (any_there _ _ _ (sym c.check_batch.ensures ∙ c.in_ok-check_batch.was)).1 _ c.if-rows-at.false)

pub returns-then-start-length : goal.returns-then-start-length
returns-then-start-length c =
    sym (text_inside_lem (any_there _ _ _ (sym c.check_batch.ensures ∙ c.in_ok-check_batch.was)).1 _ _ _ c.if-rows-at.false (omega (arith, c.if-start-length.true, ap length c.pool_of.ensures)))

pub returns-else-start-length : goal.returns-else-start-length
returns-else-start-length c =
    sym (text_outside (any_there _ _ _ (sym c.check_batch.ensures ∙ c.in_ok-check_batch.was)).1 _ _ _ c.if-rows-at.false (omega (arith, c.if-start-length.false, ap length c.pool_of.ensures)))
