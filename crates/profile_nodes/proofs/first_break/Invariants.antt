-- `first_break` meets its contract. The loop's invariant, `Walking`: what the nodes passed break, and that with it what is to come decides.
-- Assumes nothing.
use Prim.Native.Nat.{◌*◌}
use Rattle.record.specs.Flat.{node_width}
use Rattle.profile_nodes.proofs.Walking.{Walking}
use Rattle.profile_nodes.proofs.first_break.Given as goal

abbrev pub invariant-loop-n : goal.invariant-loop-n
invariant-loop-n l = Walking l.nodes l.rows (l.n * node_width) l.j l.n l.left l.best
