-- `step_of` meets its contract. Assumes nothing.
use mathlib.Core.Path.{refl, subst, sym, ◌∙◌}
use Prim.Native.Nat.{◌/◌, ◌<◌}
use native.Mathlib.Omega.{arith}
use lib.ListN.{length}
use Rattle.template_entries.specs.Table.{entry_width}
use Rattle.template_find.proofs.Found.{found_among}
use Rattle.process_plan.specs.Promises.{step_of, IdInside}
use Rattle.process_plan.proofs.Piece.{step_unknown, step_found}
use Rattle.process_plan.proofs.step_of.Goals as goal

pub returns-in-A : goal.returns-in-A
unfolding step_of
returns-in-A c = rw c.in-A.is refl

pub returns-in-B : goal.returns-in-B
unfolding step_of
returns-in-B c = rw c.in-B.is refl

pub returns-then-not-add_special_tokens : goal.returns-then-not-add_special_tokens
unfolding step_of
returns-then-not-add_special_tokens c = rw (c.in-Special.is, c.if-not-add_special_tokens.true) refl

pub overflow_add-id : goal.overflow_add-id
overflow_add-id c = omega (arith, subst (IdInside _) c.in-Special.is c.requires.id_inside)

pub slice_bounds-id-end : goal.slice_bounds-id-end
slice_bounds-id-end c = subst (IdInside _) c.in-Special.is c.requires.id_inside

pub find-requires : goal.find-requires
find-requires c = c.requires.table_fits.ids

pub returns-in_default : goal.returns-in_default
unfolding step_of
returns-in_default c = rw (c.in-Special.is, c.if-not-add_special_tokens.false) (sym (step_unknown _ _ _ _ (sym c.find.ensures ∙ c.in_default.is)))

pub overflow_cast-result : goal.overflow_cast-result
overflow_cast-result c =
    let among : c.in-Some.i < length c.args.entries.now / entry_width = found_among _ _ _ (sym c.find.ensures ∙ c.in-Some.is) in
    omega (arith, among, c.requires.table_fits.few)

pub returns-in-Some : goal.returns-in-Some
unfolding step_of
returns-in-Some c = rw (c.in-Special.is, c.if-not-add_special_tokens.false) (sym (step_found _ _ _ _ (sym c.find.ensures ∙ c.in-Some.is)))
