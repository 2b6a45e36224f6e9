-- `copy` writes n numbers of src into dst: the copy of the whole, over a part of each. Assumes nothing.
use mathlib.Core.Path.{◌≡◌}
use Prim.Native.Nat.{◌+◌, ◌-◌}
use lib.ListN.{length, take, drop, length-take, length-drop}
use native.Mathlib.Omega.{arith}
use Rattle.lists.proofs.Sets.{sets_part}
use Rattle.lists.proofs.copy.Goals as goal

pub returns : goal.returns
returns c =
    let v = c.args in
    let e = c.copy_whole.ensures in
    let k : v.from + v.n - v.from ≡ v.n = omega arith in
    let m : length (take v.n (drop v.from v.src.now)) ≡ v.n = simp (length-take, length-drop) (omega arith) in
    sets_part v.dst.now _ (take v.n (drop v.from v.src.now)) v.at v.n (omega arith) m (rw k at e)
