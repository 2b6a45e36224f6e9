-- `count_starts` meets its contract. The loop's invariant, `Adding`: the count is that of the text up to here.
-- Assumes nothing.
use mathlib.Core.Path.{◌≡◌}
use Prim.Native.Nat.{◌+◌, ◌-◌, ◌*◌, ◌/◌}
use Rattle.chars_count.proofs.Counting.{adding_start, adding_few, adding_more, adding_end}
use native.Mathlib.Nat.{add-zero}
use native.Mathlib.Omega.{arith}
use Rattle.chars_count.proofs.count_starts.Goals as goal

pub loop-k-init : goal.loop-k-init
loop-k-init c = rw add-zero (adding_start _ _ _ c.requires.0)

pub loop-k-preserved : goal.loop-k-preserved
loop-k-preserved c =
    let at = c.args.from + c.loop-k.k * 64 in
    let next : at + 64 ≡ c.args.from + (c.loop-k.k + 1) * 64 = omega arith in
    rw (← next) (adding_more c.loop-k.invariant (at + 64) _ (omega arith) (omega arith) c.count_block.ensures)

pub overflow_add-count : goal.overflow_add-count
overflow_add-count c = omega (arith, adding_few (loop-k-preserved c), (loop-k-preserved c).inside)

pub overflow_add-result : goal.overflow_add-result
overflow_add-result c =
    let last : c.loop-k.k ≡ (c.args.to - c.args.from) / 64 = omega arith in
    let counted = rw last at c.loop-k.invariant in
    omega (arith, adding_few (adding_more counted _ _ counted.inside (omega arith) c.count_block-2.ensures))

pub returns : goal.returns
returns c =
    let last : c.loop-k.k ≡ (c.args.to - c.args.from) / 64 = omega arith in
    adding_end (rw last at c.loop-k.invariant) _ c.count_block-2.ensures
