-- `convert_rows` meets its contract. The loop's invariant, `Turning`: the rows up to here are converted, the others as they were.
-- Assumes nothing.
use mathlib.Core.Path.{ap, ◌∙◌}
use Prim.Native.Nat.{ℕ}
use native.Mathlib.Omega.{arith}
use mathlib.Core.List.{List}
use Rattle.record.specs.Flat.{row_at}
use Rattle.offsets_trees.specs.Offsets.{fault_by, row_fault}
use Rattle.offsets_write.proofs.Offset.{stretched_start}
use Rattle.offsets_write.proofs.Turning.{row_fine, turning_start, turning_rest, turning_length, turning_next, turning_end}
use Rattle.offsets_write.proofs.convert_rows.Goals as goal

pub loop-i-init : goal.loop-i-init
loop-i-init c = (turning_start _ _ _, stretched_start c.args.text.now c.requires.ready.well c.args.way)

pub overflow_mul-i : goal.overflow_mul-i
overflow_mul-i c = omega (arith, c.requires.inside, c.loop-i-test.true)

pub convert_row-last-requires : goal.convert_row-last-requires
convert_row-last-requires c =
    let at_row = c.loop-i.invariant.0 in
    let fault = fault_by c.args.way c.args.text.now in (
      record {
        ready = c.requires.ready;
        inside = omega (arith, turning_length _ _ at_row (omega (arith, c.requires.inside, at_row.inside)), c.requires.inside, c.loop-i-test.true);
        fine =
            ap (λ (l : List ℕ). row_fault fault (row_at l)) (turning_rest _ _ at_row)
            ∙ row_fine fault c.args.count c.args.rows.now c.loop-i.i c.requires.fine c.loop-i-test.true;
      },
      c.loop-i.invariant.1,
    )

pub loop-i-preserved : goal.loop-i-preserved
loop-i-preserved c =
    (turning_next _ _ c.loop-i.invariant.0 c.loop-i-test.true c.requires.inside c.convert_row-last.ensures.rows, c.convert_row-last.ensures.stretch)

pub shape_of-rows : goal.shape_of-rows
shape_of-rows c =
    turning_length _ _ c.loop-i.invariant.0 (omega (arith, c.requires.inside, c.loop-i.invariant.0.inside))

pub returns : goal.returns
returns c = turning_end _ _ c.loop-i.invariant.0 c.loop-i-test.false
