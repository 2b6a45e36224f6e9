-- `write_windows` writes the windows one after another: after i turns the first i stand there. Assumes nothing.
use Prim.Native.Nat.{◌<◌}
use native.Mathlib.Omega.{arith}
use lib.ListN.{length}
use Rattle.cut_plan.specs.Cut.{bounds, windows_of}
use Rattle.cut_windows.proofs.Going.{going_start, going_forward, going_fits, going_asks, going_on}
use Rattle.cut_windows.proofs.write_windows.Goals as goal

pub loop-i-init : goal.loop-i-init
loop-i-init c = going_start _ _ _ _ _ _ _ _

pub overflow_sub-row : goal.overflow_sub-row
overflow_sub-row c =
    let v = c.args in
    let there : c.loop-i.i < length (windows_of v.n v.max v.stride v.direction) = omega (arith, c.count_windows-count.ensures v.direction) in
    going_forward c.requires c.loop-i.invariant c.window-window.result (bounds 0 0) c.window-window.ensures there

pub write_part-requires : goal.write_part-requires
write_part-requires c =
    let v = c.args in
    let there : c.loop-i.i < length (windows_of v.n v.max v.stride v.direction) = omega (arith, c.count_windows-count.ensures v.direction) in
    going_asks c.requires c.loop-i.invariant c.window-window.result (bounds 0 0) c.window-window.ensures there

pub overflow_add-row : goal.overflow_add-row
overflow_add-row c =
    let v = c.args in
    let there : c.loop-i.i < length (windows_of v.n v.max v.stride v.direction) = omega (arith, c.count_windows-count.ensures v.direction) in
    let fits = going_fits c.requires c.loop-i.invariant c.window-window.result (bounds 0 0) c.window-window.ensures there in
    omega (arith, fits)

pub loop-i-preserved : goal.loop-i-preserved
loop-i-preserved c =
    let v = c.args in
    let there : c.loop-i.i < length (windows_of v.n v.max v.stride v.direction) = omega (arith, c.count_windows-count.ensures v.direction) in
    going_on c.requires c.loop-i.invariant c.window-window.result (bounds 0 0) c.window-window.ensures there c.write_part.auto.out_nodes c.write_part.auto.out_rows c.write_part.ensures
