-- `read_pieces` meets its contract. The loop's invariant, `Gathering`: the pieces passed have been written, and the others are
-- those from here on. The measure is what is left of the text. Assumes nothing.
use mathlib.Core.Path.{◌≡◌, ap, sym, ◌∙◌}
use borrow.Author.Rules.{rules}
use native.Mathlib.Omega.{arith}
use lib.ListN.{length}
use Rattle.std.specs.Prelude.{Some, Ok}
use Rattle.template_text.specs.Comes.{comes_at}
use Rattle.template_text.specs.Template.{piece_width}
use Rattle.template_text.specs.declared.PieceStep.{PieceStep}
use Rattle.template_text.proofs.Coming.{no_more}
use Rattle.template_text.proofs.Gathering.{told_long, told_whole, gather_start, gather_end, gather_bad, gather_passing, gather_small, gather_room, gather_on}
use Rattle.template_text.proofs.read_pieces.Goals as goal
use Rattle.template_text.proofs.read_pieces.Goals.{In-Ok-Some, in_default-via-in-Ok+in_default, in_default-via-in_default}

-- a piece
came : (c : In-Ok-Some) → comes_at c.args.text.now c.loop-step.at ≡ Ok (Some c.in-Ok-Some.step)
came c = sym c.piece_from-coming.ensures ∙ c.in-Ok-Some.is ∙ ap Ok (rw c.in-Ok-Some.is at c.in-Ok-Some.field-0-is)

pub loop-step-init : goal.loop-step-init
loop-step-init c = gather_start _ _

pub returns-in_default-coming : goal.returns-in_default-coming
returns-in_default-coming c =
    let never : (step : PieceStep) → c.piece_from-coming.result ≡ Ok (Some step) → ⊥ =
    elim c.in_default.branch [
      | in_default-via-in-Ok+in_default w ↦ λ step e. search rules
      | in_default-via-in_default w ↦ λ step e. search rules
    ] in
    gather_end c.loop-step.invariant (sym c.piece_from-coming.ensures ∙ no_more _ never c.in_default-coming.not-Err)

pub returns-in_default : goal.returns-in_default
returns-in_default c = gather_bad c.loop-step.invariant (sym c.piece_from-coming.ensures ∙ c.in-Err.is)

pub numbers_of-numbers-requires : goal.numbers_of-numbers-requires
numbers_of-numbers-requires c = gather_small c.loop-step.invariant (came (goal.at.numbers_of-numbers-requires c).In-Ok-Some) c.requires

pub copy-requires : goal.copy-requires
copy-requires c =
    let long : length c.numbers_of-numbers.result ≡ piece_width = ap length c.numbers_of-numbers.ensures ∙ told_long c.in-Ok-Some.step.piece in
    (omega (arith, long), gather_room c.loop-step.invariant (came (goal.at.copy-requires c).In-Ok-Some) c.requires)

pub loop-step-smaller : goal.loop-step-smaller
loop-step-smaller c = (gather_passing c.loop-step.invariant (came (goal.at.loop-step-smaller c).In-Ok-Some)).less

pub loop-step-preserved : goal.loop-step-preserved
loop-step-preserved c =
    gather_on c.loop-step.invariant (came (goal.at.loop-step-preserved c).In-Ok-Some)
    (c.copy.ensures ∙ rw (c.numbers_of-numbers.ensures, told_whole c.in-Ok-Some.step.piece))
