-- `add_at` writes the sums of a part: those of the whole, over a part of each. Assumes nothing.
use mathlib.Core.Path.{◌≡◌, ◌∙◌}
use Prim.Native.Nat.{◌+◌, ◌-◌, ◌<◌}
use lib.ListN.{length, take, drop, length-take, length-drop}
use native.Mathlib.Omega.{arith}
use Rattle.lists.proofs.Sets.{sets_part}
use Rattle.join_add.specs.Promises.{sums}
use Rattle.join_add.proofs.Added.{length_added, part_at}
use Rattle.join_add.proofs.add_at.Goals as goal

pub add_whole-requires : goal.add_whole-requires
add_whole-requires c =
    let v = c.args in
    let size = v.from + v.m - v.from in
    record {
      room = simp (length-take, length-drop) (omega arith);
      enough = simp (length-take, length-drop) (omega arith);
      sums = λ k l.
          let short : k < v.m = omega (arith, length-take size (drop v.from v.src.now)) in
          omega (arith, part_at v.src.now v.from size k (omega arith), c.requires.sums k short);
    }

pub returns : goal.returns
returns c =
    let v = c.args in
    let e = c.add_whole.ensures in
    let k : v.from + v.m - v.from ≡ v.m = omega arith in
    let own : length (take v.m (drop v.from v.src.now)) ≡ v.m = simp (length-take, length-drop) (omega arith) in
    let long = length_added (take v.m (drop v.from v.src.now)) v.more.now (omega (arith, own)) in
    sets_part v.dst.now _ (sums (take v.m (drop v.from v.src.now)) v.more.now) v.at v.m (omega arith) (long ∙ own) (rw k at e)
