-- `write_padded` writes one node after another, each with its rows. Assumes nothing.
use Prim.Native.Nat.{◌*◌}
use Rattle.record.specs.Flat.{node_width}
use Rattle.record.specs.Tree.{Forest}
use Rattle.record.specs.WellFormed.{Stores}
use Rattle.pad_write.proofs.Growing.{Growing}
use Rattle.pad_write.proofs.write_padded.Given as goal

abbrev pub invariant-loop-n : goal.invariant-loop-n
invariant-loop-n l =
    (f : Forest) → Stores l.nodes l.rows f → Growing l.target l.token l.direction l.nodes l.rows l.initial.out_nodes l.initial.out_rows f l.out_nodes l.out_rows (l.n * node_width) l.from l.to
