-- `convert_row` meets its contract. The loop's invariant, `Columns`: so many offsets of the row are converted, and the last stretch is one
-- of the text. Assumes nothing.
use Prim.Native.Nat.{◌-◌}
use Rattle.offsets_trees.specs.Offsets.{convert_by}
use Rattle.offsets_write.specs.Promises.{StretchedBy}
use Rattle.offsets_write.proofs.Columns.{Columns}
use Rattle.offsets_write.proofs.convert_row.Given as goal

abbrev pub invariant-loop-column : goal.invariant-loop-column
invariant-loop-column l = Columns (convert_by l.way l.text) l.initial.rows l.at l.column l.rows × StretchedBy l.way l.text l.stretch
