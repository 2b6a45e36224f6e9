-- `copy_whole` leaves src in dst: after i turns, dst has the first i numbers of src. Assumes nothing.
use mathlib.Core.Path.{◌≡◌}
use lib.ListN.{length}
use lib.Seq.{paste}
use Rattle.lists.proofs.copy_whole.Given as goal

abbrev pub invariant-loop-i : goal.invariant-loop-i
invariant-loop-i l = (l.dst ≡ paste l.initial.dst 0 l.src l.i) × (length l.dst ≡ length l.initial.dst)
