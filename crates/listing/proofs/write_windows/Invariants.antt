-- `write_windows` writes a line after another while there is room: what stands so far is the loop's invariant.
-- Assumes nothing.
use Prim.Native.Nat.{◌-◌}
use Rattle.listing.proofs.Lines.{Listing}
use Rattle.listing.proofs.write_windows.Given as goal

abbrev pub invariant-loop-next : goal.invariant-loop-next
invariant-loop-next l = Listing l.request l.from l.initial.out l.at l.next l.place l.out

abbrev pub decreases-loop-next : goal.decreases-loop-next
decreases-loop-next l = l.all - l.next
