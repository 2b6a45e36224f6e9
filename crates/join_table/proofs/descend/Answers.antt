-- `descend` meets its contract.
-- Assumes nothing.
use borrow.Author.Rules.{rules}
use native.Mathlib.Omega.{arith}
use mathlib.Core.Path.{refl, sym, ◌∙◌, ap₂}
use Prim.Native.Nat.{suc, ◌+◌}
use Rattle.join_table.specs.Table.{level_count, spread}
use Rattle.join_table.proofs.Numbers.{under, spread_next}
use Rattle.join_table.proofs.Passes.{passed_more, passed_all, filled_none}
use Rattle.join_table.proofs.descend.Goals as goal

pub loop-d-init : goal.loop-d-init
unfolding spread
loop-d-init c = (filled_none level_count _, search rules, λ k l. refl)

pub step-requires : goal.step-requires
step-requires c = (omega arith, c.loop-d.invariant.1, λ k l. under c.loop-d.d _ (omega arith) c.requires.1 k _ (c.loop-d.invariant.2 k (omega arith)))

pub loop-d-preserved : goal.loop-d-preserved
loop-d-preserved c = (passed_more _ c.loop-d.invariant.0 (omega arith) (c.loop-d.invariant.2 0 (omega arith)), c.step.ensures.0, λ k l. c.step.ensures.1 k (omega arith) ∙ ap₂ ◌+◌ (ap₂ ◌+◌ (c.loop-d.invariant.2 (k + 1) (omega arith)) (c.loop-d.invariant.2 (k + level_count) (omega arith))) (c.loop-d.invariant.2 (k + suc level_count) (omega arith)) ∙ sym (spread_next c.loop-d.d _ k))

pub returns : goal.returns
returns c = passed_all c.loop-d.invariant.0 (omega arith)
