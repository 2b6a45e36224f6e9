-- `sequence_of` meets its contract. Assumes nothing.
use Prim.Native.Nat.{◌<◌}
use native.Mathlib.Omega.{arith}
use lib.ListN.{length}
use mathlib.Core.Path.{◌∙◌}
use Rattle.template_pieces.specs.Piece.{piece_answer}
use Rattle.template_pieces.proofs.ByName.{names_nothing, names_number}
use Rattle.template_pieces.proofs.sequence_of.Goals as goal

pub returns-then-name-eq0 : goal.returns-then-name-eq0
unfolding piece_answer
returns-then-name-eq0 c = rw (names_nothing _ c.if-name-eq0.true)

pub returns : goal.returns
returns c = let long : 1 < length c.args.name.now = omega arith in c.numbered.ensures ∙ rw (names_number _ long)
