-- `convert_row` meets its contract. The loop's invariant, `Columns`: so many offsets of the row are converted, and the last stretch is one
-- of the text. Assumes nothing.
use mathlib.Core.Path.{ap, ◌∙◌}
use Prim.Native.Nat.{◌<◌}
use native.Mathlib.Omega.{arith}
use Rattle.offsets_trees.specs.Offsets.{convert_by, fault_by}
use Rattle.offsets_write.proofs.Offset.{becomes, fits}
use Rattle.offsets_write.proofs.Columns.{column_fine, columns_start, columns_length, columns_there, columns_next, columns_end}
use Rattle.offsets_write.proofs.convert_row.Goals as goal

pub loop-column-init : goal.loop-column-init
loop-column-init c = (columns_start _ _ _, c.requires.1)

-- every place of the row's offsets is one of the rows
pub bounds-rows-place : goal.bounds-rows-place
bounds-rows-place c = omega (arith, columns_length _ _ _ c.loop-column.invariant.0, c.loop-column-test.true, c.requires.0.inside)

pub stretch_with-stretch-requires : goal.stretch_with-stretch-requires
stretch_with-stretch-requires c =
    let inv = c.loop-column.invariant in
    let few : c.loop-column.column < 2 = omega (arith, c.loop-column-test.true) in
    let fault = fault_by c.args.way c.args.text.now in (
      record {
        ready = c.requires.0.ready;
        fine =
            ap fault (columns_there _ _ _ inv.0 few)
            ∙ column_fine fault c.args.rows.now c.args.at c.requires.0.fine _ few;
      },
      inv.1,
    )

pub value-requires : goal.value-requires
value-requires c =
    let found = c.stretch_with-stretch.ensures in
    (found.1, fits c.args.text.now c.requires.0.ready.well _ found.1 c.args.way found.0 c.requires.0.ready.short)

pub bounds-rows-place-in-loop-column : goal.bounds-rows-place-in-loop-column
bounds-rows-place-in-loop-column c = omega (arith, columns_length _ _ _ c.loop-column.invariant.0, c.loop-column-test.true, c.requires.0.inside)

pub loop-column-preserved : goal.loop-column-preserved
loop-column-preserved c =
    let found = c.stretch_with-stretch.ensures in (
      columns_next _ _ _ c.loop-column.invariant.0 _ (omega (arith, c.loop-column-test.true))
          (c.value.ensures ∙ becomes c.args.text.now c.requires.0.ready.well _ found.1 c.args.way found.0),
      found.0,
    )

pub shape_of-rows : goal.shape_of-rows
shape_of-rows c = columns_length _ _ _ c.loop-column.invariant.0

pub returns : goal.returns
returns c = record { rows = columns_end _ _ _ c.loop-column.invariant.0 (omega (arith, c.loop-column-test.false)); stretch = c.loop-column.invariant.1 }
