-- `read_piece` meets its contract. Assumes nothing.
use mathlib.Core.Path.{◌∙◌}
use native.Mathlib.Nat.{add-sub_cancel_left}
use Rattle.template_pieces.proofs.read_piece.Goals as goal

pub returns : goal.returns
returns c = c.piece_of.ensures ∙ rw add-sub_cancel_left
