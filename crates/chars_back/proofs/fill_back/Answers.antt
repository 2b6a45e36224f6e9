-- `fill_back` meets its contract. The loop's invariant, `BackFilling`: the entries up to here are right. Assumes nothing.
use native.Mathlib.Omega.{arith}
use mathlib.Core.Path.{refl}
use Rattle.chars_places.proofs.Grains.{block_some}
use Rattle.chars_back.proofs.Back.{back_start, back_few, back_mark, back_next, back_end}
use Rattle.chars_back.proofs.fill_back.Goals as goal

pub loop-k-init : goal.loop-k-init
loop-k-init c = back_start _ c.args.table.now _ c.requires.fillable.room

pub nth_start-at-requires : goal.nth_start-at-requires
nth_start-at-requires c = c.loop-k.invariant.last.inside

pub overflow_cast-table : goal.overflow_cast-table
overflow_cast-table c =
    let some = block_some c.requires.fillable.grained in
    omega (arith, (back_mark c.loop-k.invariant c.requires.all some _ c.loop-k-test.true c.nth_start-at.ensures).inside, c.requires.fillable.short)

pub bounds-table-k : goal.bounds-table-k
bounds-table-k c =
    let grained = c.requires.fillable.grained in
    back_few c.loop-k.invariant c.requires.all (block_some grained) grained refl c.loop-k-test.true

pub offset_bounds-table-k : goal.offset_bounds-table-k
offset_bounds-table-k c =
    let grained = c.requires.fillable.grained in
    omega (arith, back_few c.loop-k.invariant c.requires.all (block_some grained) grained refl c.loop-k-test.true)

pub loop-k-preserved : goal.loop-k-preserved
loop-k-preserved c =
    let asked = c.requires in
    let grained = asked.fillable.grained in
    let few = back_few c.loop-k.invariant asked.all (block_some grained) grained refl c.loop-k-test.true in
    back_next c.loop-k.invariant asked.all (block_some grained) _ c.loop-k-test.true c.nth_start-at.ensures few

pub returns : goal.returns
returns c =
    let grained = c.requires.fillable.grained in
    back_end c.loop-k.invariant c.requires.all (block_some grained) grained refl c.loop-k-test.false
