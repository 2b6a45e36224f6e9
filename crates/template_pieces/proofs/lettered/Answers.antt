-- `lettered` meets its contract. Assumes nothing.
use mathlib.Core.Path.{◌∙◌}
use borrow.Author.Tests.{eq-eqb, ne_eqb}
use Rattle.template_pieces.specs.Piece.{piece_answer}
use Rattle.template_pieces.proofs.ByName.{names_letter}
use Rattle.template_pieces.proofs.lettered.Goals as goal
use Rattle.template_pieces.proofs.lettered.Goals.{then-letter-eq-UPPER_A-via-then-letter-eq-UPPER_A, then-letter-eq-UPPER_A-via-else-letter-eq-UPPER_A+then-letter-eq-LOWER_A, then-letter-eq-UPPER_B-via-then-letter-eq-UPPER_B, then-letter-eq-UPPER_B-via-else-letter-eq-UPPER_B+then-letter-eq-LOWER_B}

pub returns-then-letter-eq-UPPER_A : goal.returns-then-letter-eq-UPPER_A
unfolding piece_answer
returns-then-letter-eq-UPPER_A c =
    elim c.then-letter-eq-UPPER_A.branch [
      | then-letter-eq-UPPER_A-via-then-letter-eq-UPPER_A w ↦ rw (names_letter _ c.requires, eq-eqb _ _ w.if-letter-eq-UPPER_A.true)
      | then-letter-eq-UPPER_A-via-else-letter-eq-UPPER_A+then-letter-eq-LOWER_A w ↦ rw (names_letter _ c.requires, ne_eqb _ _ w.if-letter-eq-UPPER_A.false, eq-eqb _ _ w.if-letter-eq-LOWER_A.true)
    ]

pub returns-then-letter-eq-UPPER_B : goal.returns-then-letter-eq-UPPER_B
unfolding piece_answer
returns-then-letter-eq-UPPER_B c =
    elim c.then-letter-eq-UPPER_B.branch [
      | then-letter-eq-UPPER_B-via-then-letter-eq-UPPER_B w ↦ rw (names_letter _ c.requires, ne_eqb _ _ c.if-letter-eq-UPPER_A.false, ne_eqb _ _ c.if-letter-eq-LOWER_A.false, eq-eqb _ _ w.if-letter-eq-UPPER_B.true)
      | then-letter-eq-UPPER_B-via-else-letter-eq-UPPER_B+then-letter-eq-LOWER_B w ↦ rw (names_letter _ c.requires, ne_eqb _ _ c.if-letter-eq-UPPER_A.false, ne_eqb _ _ c.if-letter-eq-LOWER_A.false, ne_eqb _ _ w.if-letter-eq-UPPER_B.false, eq-eqb _ _ w.if-letter-eq-LOWER_B.true)
    ]

pub returns : goal.returns
returns c = c.numbered.ensures ∙ rw (names_letter _ c.requires, ne_eqb _ _ c.if-letter-eq-UPPER_A.false, ne_eqb _ _ c.if-letter-eq-LOWER_A.false, ne_eqb _ _ c.if-letter-eq-UPPER_B.false, ne_eqb _ _ c.if-letter-eq-LOWER_B.false)
