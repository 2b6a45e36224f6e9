-- `add_whole` leaves the sums in dst: after its turns the first i of them, and then the rest. Assumes nothing.
use Prim.Native.Nat.{ℕ}
use mathlib.Core.Path.{refl, sym, ap, ◌∙◌}
use mathlib.Core.List.{List}
use lib.ListN.{length, length-set}
use lib.Seq.{paste-zero}
use native.Mathlib.Omega.{arith}
use Rattle.join_add.specs.Promises.{sums, four_set}
use Rattle.join_add.proofs.Added.{ask_same, next_four}
use Rattle.join_add.proofs.add_whole.Goals as goal

pub loop-i-init : goal.loop-i-init
loop-i-init c = let v = c.args in (omega arith, paste-zero v.dst.now 0 (sums v.src.now v.more.now), refl)

pub add_four-requires : goal.add_four-requires
add_four-requires c = (ask_same c.requires c.loop-i.invariant.2, omega (arith, c.loop-i-test.true))

pub loop-i-preserved : goal.loop-i-preserved
loop-i-preserved c =
    let v = c.args in
    let a = c.requires in
    let i = c.loop-i.i in
    let e = c.add_four.ensures in (
      omega (arith, c.loop-i-test.true),
      e
          ∙ ap (λ (d : List ℕ). four_set v.src.now v.more.now d i) c.loop-i.invariant.1
          ∙ next_four v.src.now v.more.now v.dst.now a.room a.enough i (omega (arith, c.loop-i-test.true)),
      ap length e ∙ simp length-set c.loop-i.invariant.2,
    )

pub add_rest-requires : goal.add_rest-requires
add_rest-requires c = (ask_same c.requires c.loop-i.invariant.2, c.loop-i.invariant.0)

pub returns : goal.returns
returns c =
    c.add_rest.ensures.all c.args.dst.now (sym c.loop-i.invariant.2) c.loop-i.invariant.1
