-- `window` gives window number i, by the closed form. Assumes nothing.
use mathlib.Core.Path.{◌≡◌, sym, ap, ◌∙◌}
use Prim.Native.Nat.{ℕ, ◌+◌, ◌-◌, ◌*◌, min}
use native.Mathlib.Omega.{arith}
use lib.ListN.{get_or}
use Rattle.cut_plan.specs.Cut.{bounds, windows_of}
use Rattle.cut_plan.specs.declared.Direction.{Direction}
use Rattle.cut_plan.specs.declared.Direction.TheVariants.{Left, Right}
use Rattle.cut_plan.proofs.Laws.{Numbers, numbers, number_starts, number_at}
use Rattle.cut_plan.proofs.window.Goals as goal
use Rattle.cut_plan.proofs.window.Lts as Lts
use Rattle.cut_plan.proofs.window.Reads as Reads
use Rattle.cut_plan.proofs.window.Tie as tie

-- ---- Places in the code

abbrev Then-i-count_windows : Type 0
Then-i-count_windows = Lts.Then1 tie.the-claims Reads.Pre Reads.Post

-- under the first test i is a window's number
there : (c : Then-i-count_windows) → Numbers c.args.rows c.args.max c.args.stride c.args.i
there c = numbers _ _ _ c.args.i Right (omega (arith, c.if-i-count_windows.true, c.count_windows.ensures Right))

pub overflow_sub-start : goal.overflow_sub-start
overflow_sub-start c = omega (arith, (there c).cut.less)

pub overflow_mul-start : goal.overflow_mul-start
overflow_mul-start c = omega (arith, number_starts (there c))

pub overflow_sub-result-in-Left : goal.overflow_sub-result-in-Left
overflow_sub-result-in-Left c = omega (arith, number_starts (there c.before.before.before))

pub returns-in-Left : goal.returns-in-Left
returns-in-Left c =
    let v = c.args in
    let e : c.min-end.result ≡ min (v.i * (v.max - v.stride) + v.max) v.rows = omega arith in
    ap (λ (e : ℕ). bounds (v.rows - e) (v.rows - v.i * (v.max - v.stride))) e
    ∙ sym (number_at (there c.before.before.before) Left (bounds 0 0))
    ∙ ap (λ (d : Direction). get_or (windows_of v.rows v.max v.stride d) v.i (bounds 0 0)) (sym c.in-Left.is)

pub returns-in-Right : goal.returns-in-Right
returns-in-Right c =
    let v = c.args in
    let e : c.min-end.result ≡ min (v.i * (v.max - v.stride) + v.max) v.rows = omega arith in
    ap (bounds (v.i * (v.max - v.stride))) e
    ∙ sym (number_at (there c.before.before.before) Right (bounds 0 0))
    ∙ ap (λ (d : Direction). get_or (windows_of v.rows v.max v.stride d) v.i (bounds 0 0)) (sym c.in-Right.is)
