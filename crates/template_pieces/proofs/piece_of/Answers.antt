-- `piece_of` meets its contract. Assumes nothing.
use borrow.Author.Rules.{rules}
use mathlib.Core.Path.{◌≡◌, ap, sym, ◌∙◌}
use Prim.Native.Nat.{◌<◌}
use native.Mathlib.Omega.{arith}
use lib.ListN.{length, take}
use Rattle.template_pieces.specs.Piece.{named, piece_answer}
use Rattle.std.specs.Prelude.{Err}
use Rattle.template_pieces.proofs.Colons.{no_colon, typed_part, untyped_part, number_none, number_some, typed_bad, typed_some}
use Rattle.template_pieces.proofs.piece_of.Goals as goal

pub returns-then-end-part : goal.returns-then-end-part
returns-then-end-part c = c.named.ensures ∙ ap piece_answer (sym (no_colon _ _ c.find-end.ensures c.if-end-part.true))

pub returns-in_default : goal.returns-in_default
unfolding piece_answer
returns-in_default c =
    let there : c.find-end.result < length c.args.part.now = omega (arith, c.find-end.ensures.inside, c.if-end-part.false) in
    ap Err c.without_number.ensures
    ∙ ap piece_answer (sym (untyped_part _ _ c.find-end.ensures there (number_none _ (sym c.read_number.ensures ∙ c.in_default.is))))

-- in the last two, the number after the colon is the type
pub returns-in_err-piece : goal.returns-in_err-piece
returns-in_err-piece c =
    let there : c.find-end.result < length c.args.part.now = omega (arith, c.find-end.ensures.inside, c.if-end-part.false) in
    let same : c.from_residual.result ≡ Err c.in_err-piece.field-0.0 = search rules in
    same
    ∙ typed_bad c.in-Some.type_id (named c.args.start (take c.find-end.result c.args.part.now)) (sym c.named-2.ensures ∙ c.in_err-piece.was)
    ∙ ap piece_answer (sym (typed_part _ _ c.find-end.ensures there (number_some _ (sym c.read_number.ensures ∙ c.in-Some.is))))

pub returns : goal.returns
returns c =
    let there : c.find-end.result < length c.args.part.now = omega (arith, c.find-end.ensures.inside, c.if-end-part.false) in
    typed_some c.in-Some.type_id (named c.args.start (take c.find-end.result c.args.part.now)) (sym c.named-2.ensures ∙ c.in_ok-piece.was)
    ∙ ap piece_answer (sym (typed_part _ _ c.find-end.ensures there (number_some _ (sym c.read_number.ensures ∙ c.in-Some.is))))
