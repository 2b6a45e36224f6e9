-- `next_step` asks what piece comes, and then for its step. Assumes nothing.
use mathlib.Core.Path.{◌≡◌, ap, sym, ◌∙◌}
use borrow.Author.Rules.{rules}
use Rattle.std.specs.Prelude.{Some, Ok, Err}
use Rattle.template_text.specs.Comes.{comes_at}
use Rattle.template_text.specs.declared.PieceStep.{PieceStep}
use Rattle.template_text.proofs.Coming.{come_within, no_more}
use Rattle.process_plan.specs.Promises.{next_step, coming_step, planned_next}
use Rattle.process_plan.proofs.Piece.{id_inside}
use Rattle.process_plan.proofs.next_step.Goals as goal
use Rattle.process_plan.proofs.next_step.Goals.{In-Ok-Some, in_default-via-in-Ok+in_default, in_default-via-in_default}

-- a piece
came : (c : In-Ok-Some) → comes_at c.args.text.now c.args.at ≡ Ok (Some c.in-Ok-Some.found)
came c = sym c.piece_from-coming.ensures ∙ c.in-Ok-Some.is ∙ ap Ok (rw c.in-Ok-Some.is at c.in-Ok-Some.field-0-is)

pub returns-in_default-coming : goal.returns-in_default-coming
unfolding next_step
returns-in_default-coming c =
    let never : (step : PieceStep) → c.piece_from-coming.result ≡ Ok (Some step) → ⊥ =
    elim c.in_default.branch [
      | in_default-via-in-Ok+in_default w ↦ λ step e. search rules
      | in_default-via-in_default w ↦ λ step e. search rules
    ] in
    ap (coming_step _ _ _ _) (sym (sym c.piece_from-coming.ensures ∙ no_more _ never c.in_default-coming.not-Err))

pub returns-in_default : goal.returns-in_default
unfolding next_step
returns-in_default c = ap (coming_step _ _ _ _) (sym (sym c.piece_from-coming.ensures ∙ c.in-Err.is))

pub step_of-requires : goal.step_of-requires
step_of-requires c =
    record { table_fits = c.requires; id_inside = id_inside _ _ (come_within _ _ (came (goal.at.step_of-requires c).In-Ok-Some)) }

pub returns-in_err-step : goal.returns-in_err-step
unfolding next_step
returns-in_err-step c =
    let same : c.from_residual.result ≡ Err c.in_err-step.field-0.0 = search rules in
    rw (came (goal.at.returns-in_err-step c).In-Ok-Some) (same ∙ ap (planned_next _) (sym (sym c.step_of.ensures ∙ c.in_err-step.was)))

pub returns : goal.returns
unfolding next_step
returns c = rw (came (goal.at.returns c).In-Ok-Some) (ap (planned_next _) (sym (sym c.step_of.ensures ∙ c.in_ok-step.was)))
