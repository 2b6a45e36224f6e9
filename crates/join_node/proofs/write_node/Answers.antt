-- `write_node` writes the numbers of the node, and then its rows. Assumes nothing.
use Rattle.join_ranges.proofs.Nodes.{here_node}
use Rattle.join_node.proofs.Whole.{asks_numbers, asks_own, writes_node}
use native.Mathlib.Omega.{arith}
use mathlib.Core.Path.{refl}
use Rattle.join_node.proofs.write_node.Goals as goal

pub offset_bounds-s_nodes-i : goal.offset_bounds-s_nodes-i
offset_bounds-s_nodes-i c = omega (arith, (here_node c.requires.here_s).inside)

pub bounds-s_nodes-i : goal.bounds-s_nodes-i
bounds-s_nodes-i c = omega (arith, (here_node c.requires.here_s).inside)

pub offset_bounds-p_nodes-k : goal.offset_bounds-p_nodes-k
offset_bounds-p_nodes-k c = omega (arith, (here_node c.requires.here_p).inside)

pub bounds-p_nodes-k : goal.bounds-p_nodes-k
bounds-p_nodes-k c = omega (arith, (here_node c.requires.here_p).inside)

pub write_numbers-requires : goal.write_numbers-requires
write_numbers-requires c = asks_numbers c.requires

pub write_own_rows-requires : goal.write_own_rows-requires
write_own_rows-requires c = asks_own c.requires refl refl

pub overflow_add-result : goal.overflow_add-result
overflow_add-result c = omega (arith, c.requires.nodes_fit)

pub overflow_add-result-2 : goal.overflow_add-result-2
overflow_add-result-2 c = omega (arith, (asks_own c.requires refl refl).fits)

pub overflow_mul-result : goal.overflow_mul-result
overflow_mul-result c = omega (arith, (asks_own c.requires refl refl).fits)

pub overflow_add-result-3 : goal.overflow_add-result-3
overflow_add-result-3 c = omega (arith, (asks_own c.requires refl refl).fits)

pub returns : goal.returns
returns c =
    writes_node refl refl c.write_numbers.ensures c.write_own_rows.ensures
