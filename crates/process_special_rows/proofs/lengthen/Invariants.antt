-- `lengthen` goes through the nodes in the order in which they stand, each with its rows. Assumes nothing.
use mathlib.Core.Path.{◌≡◌}
use Prim.Native.Nat.{◌*◌}
use lib.ListN.{length}
use Rattle.record.specs.Flat.{node_width}
use Rattle.record.specs.Tree.{Forest}
use Rattle.record.specs.WellFormed.{Stores}
use Rattle.process_special_rows.specs.Lengthened.{special_rows}
use Rattle.process_special_rows.proofs.Lengthening.{Lengthening}
use Rattle.process_special_rows.proofs.lengthen.Given as goal

abbrev pub invariant-loop-n : goal.invariant-loop-n
invariant-loop-n l =
    ((f : Forest) → Stores l.initial.nodes l.rows f → Lengthening (special_rows l.members l.first l.count l.type_id) l.rows l.initial.out f l.nodes l.out (l.n * node_width) l.from l.to) × (length l.nodes ≡ length l.initial.nodes)
