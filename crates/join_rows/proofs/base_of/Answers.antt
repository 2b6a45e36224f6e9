-- `base_of` reads the offset end of the last row, if there is one and it counts. Assumes nothing.
use mathlib.Core.Path.{sym, ap, ◌∙◌}
use mathlib.Core.Bool.{Bool}
use Rattle.join_trees.specs.Join.{base}
use Rattle.join_rows.proofs.Moving.{base_none, base_last}
use native.Mathlib.Omega.{arith}
use Rattle.join_rows.proofs.base_of.Goals as goal

pub returns-then-not-growing : goal.returns-then-not-growing
returns-then-not-growing c R h n =
    let v = c.args in
    ap (λ (g : Bool). base g R) (sym c.if-not-growing.true)

pub returns-then-count-eq0 : goal.returns-then-count-eq0
returns-then-count-eq0 c R h n =
    let v = c.args in
    sym (base_none v.growing R (omega arith))

pub returns : goal.returns
returns c R h n =
    let v = c.args in
    base_last R h n (omega arith) ∙ ap (λ (g : Bool). base g R) (sym c.if-not-growing.false)
