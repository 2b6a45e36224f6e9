-- `padded_rows` adds up the rows node by node. Few nodes of 32 bits each fit. Assumes nothing.
use Prim.Native.Nat.{◌*◌, ◌≤◌}
use Rattle.record.specs.Flat.{node_width}
use Rattle.record.specs.Tree.{Forest}
use Rattle.record.specs.Passing.{NodesOf}
use Rattle.pad_length.proofs.Summing.{Summing}
use Rattle.pad_length.proofs.padded_rows.Given as goal

abbrev pub invariant-loop-n : goal.invariant-loop-n
invariant-loop-n l = (l.total ≤ l.n * 4294967295) × ((f : Forest) → NodesOf l.nodes f → Summing l.nodes l.target (l.n * node_width) l.total f)
