-- A second that keeps all its rows, or is cut to more, is left whole. Assumes nothing.
use mathlib.Core.Path.{◌≡◌}
use mathlib.Core.Bool.{false, and-false, or-false}
use Prim.Native.Nat.{ℕ, ◌≤◌}
use mathlib.Core.List.{List}
use lib.Dec.{ltb}
use lib.ListN.{length}
use borrow.Author.Tests.{le-ltb}
use Rattle.record.specs.Tree.{Encoding}
use Rattle.cut_plan.specs.declared.Direction.{Direction}
use Rattle.truncate_size.specs.Size.{stride_refused}
use Rattle.truncate_write.proofs.Sizes.{truncated_whole}
use Rattle.truncate_two.specs.CutBoth.{cut_both_outcome}
use Rattle.truncate_pair.specs.CutPair.{cut_first_outcome}

-- no stride is too large for it
pub whole_taken : (rows max stride : ℕ) → rows ≤ max → stride_refused rows max stride ≡ false
whole_taken rows max stride h = rw (le-ltb max rows h) (and-false (ltb 0 max))

pub left_whole : (out out' : List ℕ) (n m stride : ℕ) (d : Direction) (E F : Encoding) → length F.rows ≤ m → cut_both_outcome out out' n m stride d E F ≡ cut_first_outcome out out' n stride d E F
unfolding cut_both_outcome cut_first_outcome
left_whole out out' n m stride d E F h = rw (truncated_whole m stride d F h, whole_taken (length F.rows) m stride h, or-false (stride_refused (length E.rows) n stride))
