-- `named` meets its contract. Assumes nothing.
use Rattle.template_pieces.specs.Piece.{Piece, by_name, piece_answer}
use mathlib.Core.Path.{ap, sym, ◌∙◌}
use mathlib.Core.Option.{Option}
use Rattle.template_pieces.proofs.ByName.{names_empty, names_special, names_sequence}
use Rattle.template_pieces.proofs.named.Goals as goal

pub returns-then-id-eq-DOLLAR : goal.returns-then-id-eq-DOLLAR
returns-then-id-eq-DOLLAR c =
    c.sequence_of.ensures
    ∙ ap (λ (p : Option Piece). piece_answer (by_name p)) (sym (names_sequence _ _ c.if-id-gt0.true c.if-id-eq-DOLLAR.true))

pub returns-else-id-eq-DOLLAR : goal.returns-else-id-eq-DOLLAR
unfolding piece_answer
returns-else-id-eq-DOLLAR c = rw (names_special _ _ c.if-id-gt0.true c.if-id-eq-DOLLAR.false)

pub returns-else-id-gt0 : goal.returns-else-id-gt0
unfolding piece_answer
returns-else-id-gt0 c = rw (names_empty _ _ c.if-id-gt0.false)
