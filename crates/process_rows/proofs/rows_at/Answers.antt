-- `rows_at` reads the row count, if the place is inside. Assumes nothing.
use Rattle.process_rows.proofs.Places.{rows_there, rows_past}
use Rattle.process_rows.proofs.rows_at.Goals as goal

pub returns-then-at-nodes : goal.returns-then-at-nodes
returns-then-at-nodes c = rows_there _ _ c.if-at-nodes.true

pub returns : goal.returns
returns c = rows_past _ _ c.if-at-nodes.false
