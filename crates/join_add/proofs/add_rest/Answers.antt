-- `add_rest` makes the sums from i on: where the first i stand, the first k do after as many turns. Assumes nothing.
use Prim.Native.Nat.{ℕ}
use mathlib.Core.Path.{refl, ap, ◌∙◌}
use mathlib.Core.List.{List}
use lib.ListN.{set, length-set}
use native.Mathlib.Omega.{arith}
use Rattle.join_add.specs.Promises.{sum_set}
use Rattle.join_add.proofs.Added.{ask_sum, next_sum, all_sums}
use Rattle.join_add.proofs.add_rest.Goals as goal

pub loop-k-init : goal.loop-k-init
loop-k-init c = (refl, λ d h e. e)

pub sum_at-requires : goal.sum_at-requires
sum_at-requires c = ask_sum _ c.requires.0 c.loop-k-test.true

pub loop-k-preserved : goal.loop-k-preserved
loop-k-preserved c =
    let v = c.args in
    let a = c.requires.0 in
    let k = c.loop-k.k in (
      simp length-set c.loop-k.invariant.0,
      λ d h e.
          ap (set c.loop-k.dst k) c.sum_at.ensures
          ∙ ap (λ (x : List ℕ). sum_set v.src.now v.more.now x k) (c.loop-k.invariant.1 d h e)
          ∙ next_sum v.src.now v.more.now d (omega (arith, a.room)) a.enough k c.loop-k-test.true,
    )

pub returns : goal.returns
returns c =
    let v = c.args in
    let a = c.requires.0 in
    record { all = λ d h e. c.loop-k.invariant.1 d h e ∙ all_sums v.src.now v.more.now d (omega (arith, a.room)) a.enough c.loop-k.k (omega arith) }
