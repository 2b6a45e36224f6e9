-- `shift_ranges` shifts one range after another. Assumes nothing.
use mathlib.Core.Path.{refl}
use native.Mathlib.Omega.{arith}
use mathlib.Core.List.{flat_map}
use Rattle.record.specs.Read.{several}
use Rattle.pad_nodes.proofs.Ranges.{shifted_turn, range_asks}
use Rattle.pad_nodes.proofs.shift_ranges.Goals as goal

pub loop-k-init : goal.loop-k-init
unfolding flat_map several
loop-k-init c = refl

pub shift_range-requires : goal.shift_range-requires
shift_range-requires c =
    let l = c.loop-k in
    range_asks c.requires l.k l.out (omega arith) c.loop-k-test.true refl

pub loop-k-preserved : goal.loop-k-preserved
loop-k-preserved c =
    let l = c.loop-k in
    let v = c.args in
    shifted_turn v.nodes.now v.i v.shift l.k _ refl l.invariant c.shift_range.ensures
