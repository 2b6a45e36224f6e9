-- `copy_whole` leaves src in dst: after i turns, dst has the first i numbers of src. Assumes nothing.
use Prim.Native.Nat.{ℕ, ◌-◌}
use mathlib.Core.Path.{refl, ap, ◌∙◌}
use mathlib.Core.List.{List}
use lib.ListN.{get_or, set, length-set}
use lib.Seq.{paste-zero}
use native.Mathlib.Omega.{arith}
use Rattle.lists.proofs.Sets.{copy_turn, copy_all}
use Rattle.lists.proofs.copy_whole.Goals as goal

pub loop-i-init : goal.loop-i-init
loop-i-init c =
    let v = c.args in
    (paste-zero v.dst.now 0 v.src.now, refl)

pub loop-i-preserved : goal.loop-i-preserved
loop-i-preserved c =
    let v = c.args in
    let i = c.loop-i.i in (
      ap (λ (l : List ℕ). set l i (get_or v.src.now i 0)) c.loop-i.invariant.0
          ∙ copy_turn v.dst.now v.src.now i (omega arith) (omega arith),
      simp length-set c.loop-i.invariant.1,
    )

pub returns : goal.returns
returns c =
    let v = c.args in
    c.loop-i.invariant.0 ∙ copy_all v.dst.now v.src.now c.loop-i.i c.requires (omega arith)
