-- `write_pads` writes new rows one after another. Assumes nothing.
use mathlib.Core.Path.{refl}
use mathlib.Core.List.{flat_map}
use Rattle.pad_rows.proofs.Pads.{pads_turn}
use Rattle.pad_rows.proofs.write_pads.Goals as goal

pub loop-k-init : goal.loop-k-init
unfolding flat_map
loop-k-init c = refl

pub loop-k-preserved : goal.loop-k-preserved
loop-k-preserved c =
    let l = c.loop-k in
    pads_turn _ l.k _ _ l.invariant c.pad_row.ensures c.write_row.ensures
