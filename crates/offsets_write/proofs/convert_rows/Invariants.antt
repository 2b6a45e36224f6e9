-- `convert_rows` meets its contract. The loop's invariant, `Turning`: the rows up to here are converted, the others as they were.
-- Assumes nothing.
use Prim.Native.Nat.{◌-◌}
use Rattle.offsets_trees.specs.Offsets.{convert_by}
use Rattle.offsets_write.specs.Promises.{StretchedBy}
use Rattle.offsets_write.proofs.Turning.{Turning}
use Rattle.offsets_write.proofs.convert_rows.Given as goal

abbrev pub invariant-loop-i : goal.invariant-loop-i
invariant-loop-i l = Turning (convert_by l.way l.text) l.initial.rows l.count l.i l.rows × StretchedBy l.way l.text l.last
