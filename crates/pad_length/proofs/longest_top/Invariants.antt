-- `longest_top` goes through the nodes and counts the windows still to come, so that it knows which node is at the top.
-- Assumes nothing.
use Prim.Native.Nat.{◌*◌}
use Rattle.record.specs.Flat.{node_width}
use Rattle.record.specs.Tree.{Forest}
use Rattle.record.specs.Passing.{NodesOf}
use Rattle.pad_length.proofs.Searching.{Searching}
use Rattle.pad_length.proofs.longest_top.Given as goal

abbrev pub invariant-loop-n : goal.invariant-loop-n
invariant-loop-n l = (f : Forest) → NodesOf l.nodes f → Searching l.nodes (l.n * node_width) l.most l.pending f
