-- `fault_at` meets its contract. Assumes nothing.
use mathlib.Core.Path.{ap₂, ◌∙◌}
use Prim.Native.Nat.{ℕ, ◌-◌}
use native.Mathlib.Omega.{arith}
use Rattle.template_text.specs.Template.{fault_at}
use Rattle.template_text.proofs.Coming.{parts_fewer, fault_is}
use Rattle.template_text.proofs.fault_at.Goals as goal

pub overflow_sub-result : goal.overflow_sub-result
overflow_sub-result c =
    omega (arith, c.count_parts-left.ensures, c.count_parts-all.ensures, parts_fewer c.args.text.now c.args.place)

pub returns : goal.returns
returns c =
    ap₂ (λ (all left : ℕ). fault_at (all - left) c.args.place c.args.why) c.count_parts-all.ensures c.count_parts-left.ensures
    ∙ fault_is _ _ c.requires _
