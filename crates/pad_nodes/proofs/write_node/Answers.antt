-- `write_node` writes the two counts of a node and then its ranges. Assumes nothing.
use native.Mathlib.Omega.{arith}
use lib.ListN.{length-set}
use Rattle.pad_nodes.proofs.Ranges.{node_left, node_right}
use Rattle.pad_nodes.proofs.write_node.Goals as goal

pub shift_ranges-requires : goal.shift_ranges-requires
shift_ranges-requires c =
    let a = c.requires in
    record { stands = a.stands; fits = simp length-set a.fits; few = a.few; small = a.small }

pub copy-requires : goal.copy-requires
copy-requires c = let a = c.requires in (omega (arith, a.stands), simp length-set (omega (arith, a.fits)))

pub returns-in-Left : goal.returns-in-Left
returns-in-Left c =
    node_left c.args.nodes.now c.args.i c.args.count c.args.new c.args.out.now c.in-Left.is c.shift_ranges.ensures

pub returns-in-Right : goal.returns-in-Right
returns-in-Right c =
    node_right c.args.nodes.now c.args.i c.args.count c.args.new c.args.out.now c.in-Right.is c.requires.stands c.copy.ensures
