-- `count_pieces` meets its contract. The loop's invariant, `Counting`: the sum of what the pieces passed add. Assumes nothing.
use mathlib.Core.Path.{◌≡◌, ap, sym, ◌∙◌}
use borrow.Author.Rules.{rules}
use native.Mathlib.Omega.{arith}
use Rattle.std.specs.Prelude.{Some, Ok}
use Rattle.template_text.specs.Comes.{comes_at}
use Rattle.template_text.specs.declared.PieceStep.{PieceStep}
use Rattle.template_text.proofs.Coming.{no_more}
use Rattle.template_walk.proofs.Counting.{count_start, count_long, count_end, count_bad, count_passing, count_few, count_other, count_special}
use Rattle.template_walk.proofs.count_pieces.Goals as goal
use Rattle.template_walk.proofs.count_pieces.Goals.{In-Ok-Some, in_default-via-in-Ok+in_default, in_default-via-in_default}

-- a piece
came : (c : In-Ok-Some) → comes_at c.args.text.now c.loop-step.at ≡ Ok (Some c.in-Ok-Some.step)
came c = sym c.piece_from-coming.ensures ∙ c.in-Ok-Some.is ∙ ap Ok (rw c.in-Ok-Some.is at c.in-Ok-Some.field-0-is)

pub returns-then-not-is_short : goal.returns-then-not-is_short
returns-then-not-is_short c = count_long _ _ _ (sym c.is_short.ensures ∙ c.if-not-is_short.true)

pub loop-step-init : goal.loop-step-init
loop-step-init c = count_start _ _ _

pub returns-in_default-coming : goal.returns-in_default-coming
returns-in_default-coming c =
    let never : (step : PieceStep) → c.piece_from-coming.result ≡ Ok (Some step) → ⊥ =
    elim c.in_default.branch [
      | in_default-via-in-Ok+in_default w ↦ λ step e. search rules
      | in_default-via-in_default w ↦ λ step e. search rules
    ] in
    count_end c.loop-step.invariant (sym c.is_short.ensures ∙ c.if-not-is_short.false) (sym c.piece_from-coming.ensures ∙ no_more _ never c.in_default-coming.not-Err)

pub returns-in_default : goal.returns-in_default
returns-in_default c =
    count_bad c.loop-step.invariant (sym c.is_short.ensures ∙ c.if-not-is_short.false) (sym c.piece_from-coming.ensures ∙ c.in-Err.is)

-- ---- A special piece

pub overflow_add-start : goal.overflow_add-start
overflow_add-start c = omega (arith, (count_passing c.loop-step.invariant (sym c.is_short.ensures ∙ c.if-not-is_short.false) (came (goal.at.overflow_add-start c).In-Ok-Some)).within c.in-Special.start c.in-Special.length c.in-Special.is)

pub slice_bounds-ids_of-end : goal.slice_bounds-ids_of-end
slice_bounds-ids_of-end c = (count_passing c.loop-step.invariant (sym c.is_short.ensures ∙ c.if-not-is_short.false) (came (goal.at.slice_bounds-ids_of-end c).In-Ok-Some)).within c.in-Special.start c.in-Special.length c.in-Special.is

pub overflow_add-sum : goal.overflow_add-sum
overflow_add-sum c =
    omega (arith, count_few c.loop-step.invariant (sym c.is_short.ensures ∙ c.if-not-is_short.false) (came (goal.at.overflow_add-sum c).In-Ok-Some), c.loop-step.invariant.small, c.ids_of-sum.ensures.small)

pub loop-step-smaller-in-Special : goal.loop-step-smaller-in-Special
loop-step-smaller-in-Special c =
    (count_passing c.loop-step.invariant (sym c.is_short.ensures ∙ c.if-not-is_short.false) (came (goal.at.loop-step-smaller-in-Special c).In-Ok-Some)).less

pub loop-step-preserved-in-Special : goal.loop-step-preserved-in-Special
loop-step-preserved-in-Special c =
    count_special c.loop-step.invariant (sym c.is_short.ensures ∙ c.if-not-is_short.false) (came (goal.at.loop-step-preserved-in-Special c).In-Ok-Some) c.in-Special.is c.ids_of-sum.ensures

-- ---- Another

pub loop-step-smaller : goal.loop-step-smaller
loop-step-smaller c =
    (count_passing c.loop-step.invariant (sym c.is_short.ensures ∙ c.if-not-is_short.false) (came (goal.at.loop-step-smaller c).In-Ok-Some)).less

pub loop-step-preserved : goal.loop-step-preserved
loop-step-preserved c =
    count_other c.loop-step.invariant (sym c.is_short.ensures ∙ c.if-not-is_short.false) (came (goal.at.loop-step-preserved c).In-Ok-Some) c.in_default-name.not-Special
