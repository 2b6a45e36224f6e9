-- `append_special` puts the rows after those of the one node, or has `append_along` do the work. Assumes nothing.
use mathlib.Core.Path.{refl}
use native.Mathlib.Omega.{arith}
use Rattle.process_special.proofs.Appending.{room_in_place, put_in_place}
use Rattle.process_special.proofs.append_special.Goals as goal

pub write_specials-requires : goal.write_specials-requires
write_specials-requires c = (c.requires.among, omega (arith, (room_in_place _ _ _ _ c.requires).1))

pub overflow_cast-out_nodes : goal.overflow_cast-out_nodes
overflow_cast-out_nodes c = omega (arith, (room_in_place _ _ _ _ c.requires).0)

pub overflow_add-out_nodes : goal.overflow_add-out_nodes
overflow_add-out_nodes c = omega (arith, (room_in_place _ _ _ _ c.requires).0)

pub returns : goal.returns
returns c = λ S h.
    put_in_place c.args.members.now c.args.first c.args.count c.args.type_id S c.requires.among h c.if-out_nodes-ne0.false refl c.write_specials.ensures
