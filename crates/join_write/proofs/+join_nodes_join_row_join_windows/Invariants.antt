-- Joining two nodes, their windows, and one with a row of windows call each other: the nodes that are left fall.
-- Assumes nothing.
use Rattle.std.proofs.Common.{◌+◌, length}
use Rattle.join_write.proofs.Falling.{left_of}
use Rattle.join_write.proofs.RowTurns.{RowGoing}
use Rattle.join_write.proofs.WindowTurns.{WindowsGoing}
use Rattle.join_write.proofs.+join_nodes_join_row_join_windows.Given as goal

abbrev pub decreases-join_nodes : goal.decreases-join_nodes
decreases-join_nodes l = left_of (length l.s_nodes.now) l.s.node (length l.p_nodes.now) l.p.node + 2

abbrev pub decreases-join_row : goal.decreases-join_row
decreases-join_row l = left_of (length l.s_nodes.now) l.s.node (length l.p_nodes.now) l.p.node

abbrev pub decreases-join_windows : goal.decreases-join_windows
decreases-join_windows l = left_of (length l.s_nodes.now) l.s.node (length l.p_nodes.now) l.p.node + 1

abbrev pub invariant-join_row-loop-left : goal.invariant-join_row-loop-left
invariant-join_row-loop-left l =
    RowGoing l.s_nodes l.s_rows l.s l.p_nodes l.p_rows l.growing l.initial.out_nodes l.initial.out_rows l.initial.window l.initial.left l.initial.place l.seen l.out_nodes l.out_rows l.window l.left l.place

abbrev pub decreases-join_row-loop-left : goal.decreases-join_row-loop-left
decreases-join_row-loop-left l = l.left

abbrev pub invariant-join_windows-loop-left : goal.invariant-join_windows-loop-left
invariant-join_windows-loop-left l =
    WindowsGoing l.s_nodes l.s_rows l.s l.p_nodes l.p_rows l.p l.view l.growing l.initial.out_nodes l.initial.out_rows l.initial.place l.out_nodes l.out_rows l.window l.left l.place

abbrev pub decreases-join_windows-loop-left : goal.decreases-join_windows-loop-left
decreases-join_windows-loop-left l = l.left
