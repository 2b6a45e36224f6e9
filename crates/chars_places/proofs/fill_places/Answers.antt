-- `fill_places` meets its contract. The loop's invariant, `Filling`: the entries up to here are right. Assumes nothing.
use native.Mathlib.Omega.{arith}
use mathlib.Core.Path.{refl}
use Rattle.chars_places.proofs.Table.{block_inside, filling_start, filling_few, filling_fits, filling_next, filling_end}
use Rattle.chars_places.proofs.Grains.{block_some}
use Rattle.chars_places.proofs.fill_places.Goals as goal

pub loop-k-init : goal.loop-k-init
loop-k-init c = filling_start _ c.args.table.now _ c.requires.room

pub overflow_add-count : goal.overflow_add-count
overflow_add-count c =
    let fits = block_inside c.args.text.now (block_some c.requires.grained) c.loop-k-test.true in
    omega (arith, filling_fits c.loop-k.invariant _ c.count_starts-count.ensures fits)

pub overflow_cast-table : goal.overflow_cast-table
overflow_cast-table c =
    let fits = block_inside c.args.text.now (block_some c.requires.grained) c.loop-k-test.true in
    omega (arith, filling_fits c.loop-k.invariant _ c.count_starts-count.ensures fits, c.requires.short)

pub loop-k-preserved : goal.loop-k-preserved
loop-k-preserved c =
    let fits = block_inside c.args.text.now (block_some c.requires.grained) c.loop-k-test.true in
    filling_next c.loop-k.invariant _ c.count_starts-count.ensures fits (filling_few c.loop-k.invariant c.requires.grained refl fits)

pub returns : goal.returns
returns c = filling_end c.loop-k.invariant c.requires.grained refl c.loop-k-test.false
