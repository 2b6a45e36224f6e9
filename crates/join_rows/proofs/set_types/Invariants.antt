-- `set_types` sets the type of each row: after i turns, of the first i. Assumes nothing.
use Rattle.join_view.specs.View.{typed_row}
use Rattle.join_rows.proofs.Turning.{Turning}
use Rattle.join_rows.proofs.set_types.Given as goal

abbrev pub invariant-loop-i : goal.invariant-loop-i
invariant-loop-i l = Turning (typed_row l.type_id) l.initial.rows l.at l.count l.rows l.i
