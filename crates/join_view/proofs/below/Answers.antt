-- `below`: each view one level down. Assumes nothing.
use mathlib.Core.Path.{sym, ap}
use Rattle.join_view.specs.View.{below}
use Rattle.join_view.proofs.below.Goals as goal

pub returns-in-Piece : goal.returns-in-Piece
returns-in-Piece c = sym (ap below c.in-Piece.is)
