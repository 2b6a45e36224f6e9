-- `add_few` makes all sums: the rest from the first on. Assumes nothing.
use mathlib.Core.Path.{refl}
use lib.Seq.{paste-zero}
use Rattle.join_add.specs.Promises.{sums}
use Rattle.join_add.proofs.add_few.Goals as goal

pub returns : goal.returns
returns c =
    let v = c.args in
    c.add_rest.ensures.all v.dst.now refl (paste-zero v.dst.now 0 (sums v.src.now v.more.now))
