-- `write_specials` writes a row for each member: after k turns, those of the first k. Assumes nothing.
use mathlib.Core.Path.{refl}
use native.Mathlib.Omega.{arith}
use mathlib.Core.List.{flat_map}
use Rattle.process_special_rows.proofs.Specials.{specials_turn}
use Rattle.process_special_rows.proofs.write_specials.Goals as goal

pub loop-k-init : goal.loop-k-init
unfolding flat_map
loop-k-init c = refl

pub loop-k-preserved : goal.loop-k-preserved
loop-k-preserved c =
    specials_turn c.args.members.now c.args.first c.args.type_id c.loop-k.k c.args.to c.args.out.now (omega arith) refl c.loop-k.invariant c.special_row.ensures c.write_row.ensures
