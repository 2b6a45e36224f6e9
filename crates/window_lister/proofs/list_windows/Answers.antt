-- `list_windows` ends: each block has a window or more, so fewer are left. Assumes nothing.
use borrow.Author.Rules.{rules}
use native.Mathlib.Omega.{arith}
use Rattle.listing.specs.Promises.{LineRoom}
use Rattle.listing.proofs.Lines.{lists_move}
use Rattle.window_lister.proofs.list_windows.Goals as goal

pub loop-next-smaller : goal.loop-next-smaller
loop-next-smaller g c =
    let room : LineRoom c.loop-next.out c.in_ok-room.room = search rules in
    omega (arith, lists_move c.write_windows-step.ensures (omega arith) room)
