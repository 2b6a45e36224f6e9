-- `text_part` lends the part that `text` finds, and an empty one where it finds none. Assumes nothing.
use mathlib.Core.Path.{refl, sym, ap, ◌∙◌}
use Rattle.std.specs.Prelude.{Ok}
use Rattle.lookup_texts.proofs.RowText.{part_fits}
use Rattle.lookup_texts.proofs.text_part.Goals as goal

pub slice_bounds-result-end : goal.slice_bounds-result-end
slice_bounds-result-end c =
    part_fits _ _ _ _ (sym c.text.ensures ∙ c.in-Ok-Some.is ∙ ap Ok c.in-Ok-Some.field-0-is) (sym c.pool_of.ensures) refl refl
