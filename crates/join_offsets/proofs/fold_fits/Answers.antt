-- `fold_fits` is told by the steps, unless all is far within; without growing every fold fits, as the batch's numbers do.
-- Assumes nothing.
use native.Mathlib.Omega.{arith}
use mathlib.Core.Path.{sym, ap, subst, ◌∙◌}
use mathlib.Core.Bool.{Bool}
use Rattle.record.specs.Tree.{listed}
use Rattle.record.proofs.Tree.{forest_listed}
use Rattle.join_trees.specs.Offsets.{fold_fits}
use Rattle.join_trees.proofs.Offsets.{OffsetsFit, fold_fits_still}
use Rattle.join_offsets.proofs.Known.{stored_fits}
use Rattle.join_offsets.proofs.fold_fits.Goals as goal

pub returns-then-not-growing : goal.returns-then-not-growing
returns-then-not-growing c = λ f h.
    let fits : OffsetsFit f = stored_fits h (λ i. omega (arith, c.type_inv.rows i)) in
    sym (ap (λ (g : Bool). fold_fits g (listed f)) c.if-not-growing.true ∙ fold_fits_still (listed f) (subst OffsetsFit (sym (forest_listed f)) fits))

pub far_within-requires : goal.far_within-requires
far_within-requires c = c.requires

pub returns-then-far_within : goal.returns-then-far_within
returns-then-far_within c = λ f h. sym (ap (λ (g : Bool). fold_fits g (listed f)) c.if-not-growing.false ∙ c.far_within.ensures f h c.if-far_within.true)

pub steps_fit-requires : goal.steps_fit-requires
steps_fit-requires c = c.requires

pub returns : goal.returns
returns c = λ f h. c.steps_fit.ensures f h ∙ sym (ap (λ (g : Bool). fold_fits g (listed f)) c.if-not-growing.false)
