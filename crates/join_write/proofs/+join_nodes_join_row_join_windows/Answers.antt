-- Joining two nodes, their windows, and one with a row of windows meet their contracts, each by what the calls below its
-- measure wrote.
-- Assumes nothing.
use Rattle.std.proofs.Common.{arith}
use Rattle.join_write.proofs.Falling.{windows_fall, row_fall}
use Rattle.join_write.proofs.Joined.{ask_node, ask_windows, writes_join}
use Rattle.join_walk.proofs.Places.{one_fits, ask_down, ask_next}
use Rattle.join_write.proofs.RowTurns.{row_ask, row_start, row_turn, row_falls, row_asks, row_on, row_all}
use Rattle.join_write.proofs.WindowTurns.{windows_start, windows_turn, windows_deeper, windows_row_deeper, windows_asks, windows_row_asks, windows_on, windows_last_asks, windows_end}
use Rattle.join_write.proofs.+join_nodes_join_row_join_windows.Goals as goal

-- ---- `join_nodes`

pub join_nodes-write_node-next-requires : goal.join_nodes-write_node-next-requires
join_nodes-write_node-next-requires t c = ask_node c.requires

pub join_nodes-join_windows-requires : goal.join_nodes-join_windows-requires
join_nodes-join_windows-requires t c = (windows_fall _ c.decreases, ask_windows c.write_node-next.ensures c.requires)

pub join_nodes-returns : goal.join_nodes-returns
join_nodes-returns t c = writes_join c.write_node-next.ensures c.join_windows.ensures

-- ---- `join_row`

pub join_row-down-window-requires : goal.join_row-down-window-requires
join_row-down-window-requires t c = ask_down c.requires.here_p (omega arith)

pub join_row-windows-left-requires : goal.join_row-windows-left-requires
join_row-windows-left-requires t c = one_fits c.requires.here_p

pub join_row-loop-left-init : goal.join_row-loop-left-init
join_row-loop-left-init t c = row_start

pub join_row-join_nodes-place-requires : goal.join_row-join_nodes-place-requires
join_row-join_nodes-place-requires t c =
    let known = row_ask c.requires c.down-window.ensures c.windows-left.ensures c.below-seen.ensures in
    (row_falls c.loop-left.invariant known c.args.p c.down-window.ensures c.loop-left-test.true c.decreases, row_asks c.loop-left.invariant known c.loop-left-test.true)

pub join_row-next-window-requires : goal.join_row-next-window-requires
join_row-next-window-requires t c =
    let known = row_ask c.requires c.down-window.ensures c.windows-left.ensures c.below-seen.ensures in
    ask_next (row_turn c.loop-left.invariant known c.loop-left-test.true).here (omega arith)

pub join_row-loop-left-preserved : goal.join_row-loop-left-preserved
join_row-loop-left-preserved t c =
    let known = row_ask c.requires c.down-window.ensures c.windows-left.ensures c.below-seen.ensures in
    row_on c.loop-left.invariant known c.loop-left-test.true c.join_nodes-place.ensures c.next-window.ensures

pub join_row-returns : goal.join_row-returns
join_row-returns t c =
    row_all c.loop-left.invariant c.args.view c.loop-left-test.false c.down-window.ensures c.windows-left.ensures c.below-seen.ensures

-- ---- `join_windows`

pub join_windows-down-window-requires : goal.join_windows-down-window-requires
join_windows-down-window-requires t c = ask_down c.requires.here_s (omega arith)

pub join_windows-windows-left-requires : goal.join_windows-windows-left-requires
join_windows-windows-left-requires t c = one_fits c.requires.here_s

pub join_windows-loop-left-init : goal.join_windows-loop-left-init
join_windows-loop-left-init t c = windows_start c.down-window.ensures c.windows-left.ensures

pub join_windows-join_nodes-paired-requires : goal.join_windows-join_nodes-paired-requires
join_windows-join_nodes-paired-requires t c =
    let going = c.loop-left.invariant in
    (windows_deeper going c.requires c.loop-left-test.true c.decreases, windows_asks going c.requires c.loop-left-test.true)

pub join_windows-join_row-rowed-requires : goal.join_windows-join_row-rowed-requires
join_windows-join_row-rowed-requires t c =
    let going = c.loop-left.invariant in
    (windows_row_deeper going c.requires c.loop-left-test.true c.decreases, windows_row_asks going c.requires c.loop-left-test.true c.join_nodes-paired.ensures)

pub join_windows-next-window-requires : goal.join_windows-next-window-requires
join_windows-next-window-requires t c = ask_next (windows_turn c.loop-left.invariant c.requires c.loop-left-test.true).here (omega arith)

pub join_windows-loop-left-preserved : goal.join_windows-loop-left-preserved
join_windows-loop-left-preserved t c =
    windows_on c.loop-left.invariant c.requires c.loop-left-test.true c.join_nodes-paired.ensures c.join_row-rowed.ensures c.next-window.ensures

pub join_windows-join_row-requires : goal.join_windows-join_row-requires
join_windows-join_row-requires t c =
    (row_fall _ c.decreases, windows_last_asks c.loop-left.invariant c.requires c.loop-left-test.false)

pub join_windows-returns : goal.join_windows-returns
join_windows-returns t c = windows_end c.loop-left.invariant c.loop-left-test.false c.join_row.ensures
