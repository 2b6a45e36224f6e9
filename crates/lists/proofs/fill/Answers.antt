-- `fill` writes v n times into dst: the fill of the whole, over a part. Assumes nothing.
use mathlib.Core.Path.{◌≡◌}
use Prim.Native.Nat.{◌+◌, ◌-◌}
use lib.ListN.{length, take, drop, replicate, length-take, length-drop, length-replicate}
use native.Mathlib.Omega.{arith}
use Rattle.lists.proofs.Sets.{sets_part}
use Rattle.lists.proofs.fill.Goals as goal

pub returns : goal.returns
returns c =
    let v = c.args in
    let e = c.fill.ensures.after (λ y h. h) in
    let k : length (take (v.at + v.n - v.at) (drop v.at v.dst.now)) ≡ v.n = simp (length-take, length-drop) (omega arith) in
    sets_part v.dst.now _ (replicate v.n v.v) v.at v.n (omega arith) (length-replicate v.n v.v) (rw k at e)
