-- `count_windows` gives the number of windows, by the closed form. Assumes nothing.
use mathlib.Core.Path.{sym, ap, ◌∙◌}
use Prim.Native.Nat.{◌+◌}
use native.Mathlib.Nat.{add_comm}
use native.Mathlib.Omega.{arith}
use lib.ListN.{length}
use Rattle.cut_plan.proofs.Ceiling.{ceiling_is}
use Rattle.cut_plan.proofs.Windows.{no_windows_whole, no_windows_stride, windows_count}
use Rattle.cut_plan.proofs.count_windows.Goals as goal
use Rattle.cut_plan.proofs.count_windows.Goals.{then-rows-max-via-then-rows-max, then-rows-max-via-else-rows-max+then-max-stride}

pub returns-then-rows-max : goal.returns-then-rows-max
returns-then-rows-max c = λ d. elim c.then-rows-max.branch [
  | then-rows-max-via-then-rows-max w ↦ sym (ap length (no_windows_whole _ _ _ d w.if-rows-max.true))
  | then-rows-max-via-else-rows-max+then-max-stride w ↦ sym (ap length (no_windows_stride _ _ _ d w.if-max-stride.true))
]

pub returns : goal.returns
returns c = λ d. ap (◌+ 1) (c.div_ceil.ensures ∙ ceiling_is _ _ (omega arith)) ∙ add_comm _ 1 ∙ sym (windows_count (record { fewer = omega arith; less = omega arith }) d)
