-- `piece_from` meets its contract. Assumes nothing.
use mathlib.Core.Path.{ap, sym, ◌∙◌}
use native.Mathlib.Omega.{arith}
use Rattle.template_parts.specs.declared.PartStep.{PartStep}
use Rattle.template_parts.proofs.Parts.{part_found}
use Rattle.template_text.proofs.Coming.{at_end, at_bad, at_piece}
use Rattle.template_text.proofs.piece_from.Goals as goal

pub returns-in_default : goal.returns-in_default
returns-in_default c = at_end _ _ (sym (ap (λ (s : PartStep). s.answer) c.part_from-step.ensures) ∙ c.in_default.is)

pub read_piece-requires : goal.read_piece-requires
read_piece-requires c = (part_found _ _ (sym (ap (λ (s : PartStep). s.answer) c.part_from-step.ensures) ∙ c.in-Some.is)).inside

pub fault_at-requires : goal.fault_at-requires
fault_at-requires c = omega (arith, (part_found _ _ (sym (ap (λ (s : PartStep). s.answer) c.part_from-step.ensures) ∙ c.in-Some.is)).inside)

pub returns-in-Err : goal.returns-in-Err
returns-in-Err c =
    at_bad _ _ (sym (ap (λ (s : PartStep). s.answer) c.part_from-step.ensures) ∙ c.in-Some.is) (sym c.read_piece.ensures ∙ c.in-Err.is) c.fault_at.ensures

pub returns-in-Ok : goal.returns-in-Ok
returns-in-Ok c =
    at_piece _ _ (sym (ap (λ (s : PartStep). s.answer) c.part_from-step.ensures) ∙ c.in-Some.is) (sym c.read_piece.ensures ∙ c.in-Ok.is) (ap (λ (s : PartStep). s.next) c.part_from-step.ensures)
