-- `append_node` adds the row count, lays P's ranges over S's, and copies P's rows after S's. Assumes nothing.
use mathlib.Core.Path.{refl}
use Rattle.join_ranges.proofs.Nodes.{node_count_lem, here_node, own_inside}
use Rattle.fold_append.proofs.Appending.{asks_ranges, rows_room, asks_rows, appends}
use native.Mathlib.Omega.{arith}
use Rattle.fold_append.proofs.append_node.Goals as goal

pub bounds-out_nodes-0 : goal.bounds-out_nodes-0
bounds-out_nodes-0 c = omega (arith, (here_node c.requires.here_s).inside)

pub offset_bounds-p_nodes-k : goal.offset_bounds-p_nodes-k
offset_bounds-p_nodes-k c = omega (arith, (here_node c.requires.here_p).inside)

pub bounds-p_nodes-k : goal.bounds-p_nodes-k
bounds-p_nodes-k c = omega (arith, (here_node c.requires.here_p).inside)

pub base_of-base-requires : goal.base_of-base-requires
base_of-base-requires c =
    let s = c.requires.here_s in
    omega (arith, own_inside s, node_count_lem (here_node s))

pub overflow_add-out_nodes : goal.overflow_add-out_nodes
overflow_add-out_nodes c =
    let ask = c.requires in
    omega (arith, ask.few_rows, node_count_lem (here_node ask.here_s), node_count_lem (here_node ask.here_p))

pub bounds-out_nodes-0-2 : goal.bounds-out_nodes-0-2
bounds-out_nodes-0-2 c = omega (arith, (here_node c.requires.here_s).inside)

pub lay_ranges-requires : goal.lay_ranges-requires
lay_ranges-requires c = asks_ranges c.requires

pub copy_moved-requires : goal.copy_moved-requires
copy_moved-requires c =
    (asks_rows c.requires refl refl c.base_of-base.ensures, omega (arith, rows_room c.requires refl refl))

pub returns : goal.returns
returns c =
    appends c.args.growing c.base_of-base.ensures refl refl c.lay_ranges.ensures c.copy_moved.ensures
