-- `view_types` leaves rows as the view shows them. Assumes nothing.
use mathlib.Core.Path.{ap}
use Rattle.join_view.specs.declared.View.{View}
use Rattle.join_view.specs.View.{rows_seen}
use Rattle.join_rows.proofs.Moving.{makes_none, makes_typed}
use Rattle.join_rows.proofs.view_types.Goals as goal

pub returns-in-Plain : goal.returns-in-Plain
returns-in-Plain c = makes_none c.args.view (λ R. ap (λ (v : View). rows_seen v R) c.in-Plain.is)

pub returns-in-Window : goal.returns-in-Window
returns-in-Window c = makes_none c.args.view (λ R. ap (λ (v : View). rows_seen v R) c.in-Window.is)

pub returns-in-Piece : goal.returns-in-Piece
returns-in-Piece c = makes_typed c.args.view c.in-Piece.is c.set_types.ensures
