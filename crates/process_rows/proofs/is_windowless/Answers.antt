-- `is_windowless` reads the window count, if the place is inside. Assumes nothing.
use native.Mathlib.Omega.{arith}
use Rattle.process_rows.proofs.Places.{place_long, windows_there, windows_past}
use Rattle.process_rows.proofs.is_windowless.Goals as goal

pub bounds-nodes-at : goal.bounds-nodes-at
bounds-nodes-at c = let a = c.requires in omega (arith, place_long _ _ c.if-at-nodes.true a.there a.stands)

pub returns-then-at-nodes : goal.returns-then-at-nodes
returns-then-at-nodes c = windows_there _ _ c.if-at-nodes.true

pub returns : goal.returns
returns c = windows_past _ _ c.if-at-nodes.false
