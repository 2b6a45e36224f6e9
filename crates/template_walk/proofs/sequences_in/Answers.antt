-- `sequences_in` meets its contract. The loop's invariant, `Naming`: the sequences that the pieces passed name. Assumes nothing.
use mathlib.Core.Path.{◌≡◌, ap, sym, ◌∙◌}
use borrow.Author.Rules.{rules}
use Rattle.std.specs.Prelude.{Some, Ok}
use Rattle.template_text.specs.Comes.{comes_at}
use Rattle.template_text.specs.declared.PieceStep.{PieceStep}
use Rattle.template_text.proofs.Coming.{comes, no_more}
use Rattle.template_walk.proofs.Naming.{name_start, name_long, name_end, name_bad, name_a, name_b, name_neither}
use Rattle.template_walk.proofs.sequences_in.Goals as goal
use Rattle.template_walk.proofs.sequences_in.Goals.{In-Ok-Some, in_default-via-in-Ok+in_default, in_default-via-in_default}

-- a piece
came : (c : In-Ok-Some) → comes_at c.args.text.now c.loop-step.at ≡ Ok (Some c.in-Ok-Some.step)
came c = sym c.piece_from-coming.ensures ∙ c.in-Ok-Some.is ∙ ap Ok (rw c.in-Ok-Some.is at c.in-Ok-Some.field-0-is)

pub returns-then-not-is_short : goal.returns-then-not-is_short
returns-then-not-is_short c = name_long _ (sym c.is_short.ensures ∙ c.if-not-is_short.true)

pub loop-step-init : goal.loop-step-init
loop-step-init c = name_start _

pub returns-in_default-coming : goal.returns-in_default-coming
returns-in_default-coming c =
    let never : (step : PieceStep) → c.piece_from-coming.result ≡ Ok (Some step) → ⊥ =
    elim c.in_default.branch [
      | in_default-via-in-Ok+in_default w ↦ λ step e. search rules
      | in_default-via-in_default w ↦ λ step e. search rules
    ] in
    name_end c.loop-step.invariant (sym c.is_short.ensures ∙ c.if-not-is_short.false) (sym c.piece_from-coming.ensures ∙ no_more _ never c.in_default-coming.not-Err)

pub returns-in_default : goal.returns-in_default
returns-in_default c =
    name_bad c.loop-step.invariant (sym c.is_short.ensures ∙ c.if-not-is_short.false) (sym c.piece_from-coming.ensures ∙ c.in-Err.is)

-- ---- The three names

pub loop-step-smaller-in-A : goal.loop-step-smaller-in-A
loop-step-smaller-in-A c = (comes c.loop-step.invariant.walked (came (goal.at.loop-step-smaller-in-A c).In-Ok-Some)).less

pub loop-step-preserved-in-A : goal.loop-step-preserved-in-A
loop-step-preserved-in-A c = name_a c.loop-step.invariant (came (goal.at.loop-step-preserved-in-A c).In-Ok-Some) c.in-A.is

pub loop-step-smaller-in-B : goal.loop-step-smaller-in-B
loop-step-smaller-in-B c = (comes c.loop-step.invariant.walked (came (goal.at.loop-step-smaller-in-B c).In-Ok-Some)).less

pub loop-step-preserved-in-B : goal.loop-step-preserved-in-B
loop-step-preserved-in-B c = name_b c.loop-step.invariant (came (goal.at.loop-step-preserved-in-B c).In-Ok-Some) c.in-B.is

pub loop-step-smaller : goal.loop-step-smaller
loop-step-smaller c = (comes c.loop-step.invariant.walked (came (goal.at.loop-step-smaller c).In-Ok-Some)).less

pub loop-step-preserved : goal.loop-step-preserved
loop-step-preserved c = name_neither c.loop-step.invariant (came (goal.at.loop-step-preserved c).In-Ok-Some) c.in-Special.is
