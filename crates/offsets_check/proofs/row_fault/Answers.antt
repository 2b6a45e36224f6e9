-- `row_fault` meets its contract: the start goes before the end. Assumes nothing.
use mathlib.Core.Path.{refl, sym, ◌∙◌}
use Rattle.offsets_trees.specs.Offsets.{fault_by}
use Rattle.offsets_check.proofs.Faults.{row_first, row_second}
use Rattle.offsets_check.proofs.row_fault.Goals as goal

pub offset_fault-start-requires : goal.offset_fault-start-requires
offset_fault-start-requires c = c.requires.0

pub returns-then-is_some : goal.returns-then-is_some
returns-then-is_some c =
    let a = c.args in
    row_first (fault_by a.way a.text.now) a.rows.now a.at _ _ refl c.offset_fault-start.ensures (sym c.is_some.ensures ∙ c.if-is_some.true)

pub offset_fault-requires : goal.offset_fault-requires
offset_fault-requires c = c.requires.0

pub returns : goal.returns
returns c =
    let a = c.args in
    row_second (fault_by a.way a.text.now) a.rows.now a.at _ _ _ _ refl refl c.offset_fault-start.ensures c.offset_fault.ensures (sym c.is_some.ensures ∙ c.if-is_some.false)
