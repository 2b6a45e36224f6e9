-- Where there are windows there is one. Assumes nothing.
use mathlib.Core.Path.{sym, subst}
use native.Mathlib.Omega.{arith}
use Rattle.cut_plan.proofs.Decides.{Says, decided}
use Rattle.truncate_size.proofs.Counted.{counted}
use Rattle.truncate_size.proofs.size_after.Goals as goal

pub overflow_sub-result : goal.overflow_sub-result
overflow_sub-result c =
    let v = c.args in
    omega (arith, (counted v.n v.max v.stride c.requires.few_own (subst (Says v.n v.max v.stride) (sym c.in-Windows.ensures) (decided v.n v.max v.stride))).some)
