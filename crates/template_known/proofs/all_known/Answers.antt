-- `all_known` meets its contract. The outer loop's invariant, `Knowing`: the pieces passed have known ids; the inner one's,
-- `Seeking`: no entry passed has the id. Assumes nothing.
use mathlib.Core.Path.{◌≡◌, ap, sym, ◌∙◌}
use borrow.Author.Rules.{rules}
use native.Mathlib.Omega.{arith}
use Rattle.std.specs.Prelude.{Some, Ok}
use Rattle.template_text.specs.Comes.{comes_at}
use Rattle.template_text.specs.declared.PieceStep.{PieceStep}
use Rattle.template_text.proofs.Coming.{no_more}
use Rattle.template_known.proofs.Knowing.{seek_start, seek_on, seek_end, know_start, know_end, know_bad, know_passing, know_other, know_found, know_missing}
use Rattle.template_known.proofs.all_known.Goals as goal
use Rattle.template_known.proofs.all_known.Goals.{In-Ok-Some, in_default-via-in-Ok+in_default, in_default-via-in_default}

-- a piece
came : (c : In-Ok-Some) → comes_at c.args.text.now c.parts.at ≡ Ok (Some c.in-Ok-Some.step)
came c = sym c.piece_from-coming.ensures ∙ c.in-Ok-Some.is ∙ ap Ok (rw c.in-Ok-Some.is at c.in-Ok-Some.field-0-is)

pub parts-init : goal.parts-init
parts-init c = know_start _ _ _

pub returns-in_default-coming : goal.returns-in_default-coming
returns-in_default-coming c =
    let never : (step : PieceStep) → c.piece_from-coming.result ≡ Ok (Some step) → ⊥ =
    elim c.in_default.branch [
      | in_default-via-in-Ok+in_default w ↦ λ step e. search rules
      | in_default-via-in_default w ↦ λ step e. search rules
    ] in
    know_end c.parts.invariant (sym c.piece_from-coming.ensures ∙ no_more _ never c.in_default-coming.not-Err)

pub returns-in_default : goal.returns-in_default
returns-in_default c = know_bad c.parts.invariant (sym c.piece_from-coming.ensures ∙ c.in-Err.is)

-- ---- A piece that is not special

pub parts-smaller-in_default-name : goal.parts-smaller-in_default-name
parts-smaller-in_default-name c = (know_passing c.parts.invariant (came (goal.at.parts-smaller-in_default-name c).In-Ok-Some)).less

pub parts-preserved-in_default-name : goal.parts-preserved-in_default-name
parts-preserved-in_default-name c = know_other c.parts.invariant (came (goal.at.parts-preserved-in_default-name c).In-Ok-Some) c.in_default-name.not-Special

-- ---- A special piece

pub overflow_add-id : goal.overflow_add-id
overflow_add-id c = omega (arith, (know_passing c.parts.invariant (came (goal.at.overflow_add-id c).In-Ok-Some)).within c.in-Special.start c.in-Special.length c.in-Special.is)

pub slice_bounds-id-end : goal.slice_bounds-id-end
slice_bounds-id-end c = (know_passing c.parts.invariant (came (goal.at.slice_bounds-id-end c).In-Ok-Some)).within c.in-Special.start c.in-Special.length c.in-Special.is

pub loop-i-init : goal.loop-i-init
loop-i-init c = seek_start

pub parts-smaller : goal.parts-smaller
parts-smaller c = (know_passing c.parts.invariant (came (goal.at.parts-smaller c).In-Ok-Some)).less

pub parts-preserved : goal.parts-preserved
parts-preserved c =
    know_found c.parts.invariant (came (goal.at.parts-preserved c).In-Ok-Some) c.in-Special.is c.loop-i-test.true (sym c.has_id.ensures ∙ c.if-has_id.true)

pub loop-i-preserved : goal.loop-i-preserved
loop-i-preserved c = seek_on c.loop-i.invariant c.loop-i-test.true (sym c.has_id.ensures ∙ c.if-has_id.false)

pub returns : goal.returns
returns c =
    know_missing c.parts.invariant (came (goal.at.returns c).In-Ok-Some) c.in-Special.is (seek_end c.loop-i.invariant c.loop-i-test.false)
