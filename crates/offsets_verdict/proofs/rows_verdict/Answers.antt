-- `rows_verdict` meets its contract: the characters are counted, then the rows are looked at. Assumes nothing.
use mathlib.Core.Path.{ap, ap₂, ◌∙◌}
use Prim.Native.Nat.{◌/◌}
use lib.ListN.{length}
use native.Mathlib.Nat.{div-mul-le_self}
use Rattle.record.specs.Flat.{row_width, row_at}
use Rattle.record.specs.Read.{several}
use Rattle.offsets_trees.specs.declared.Way.{Way}
use Rattle.offsets_trees.specs.Offsets.{fault_by, rows_fault}
use Rattle.offsets_verdict.specs.Verdicts.{of_fault}
use Rattle.offsets_verdict.proofs.Deciding.{text_counted}
use Rattle.offsets_verdict.proofs.Plain.{looked_same}
use Rattle.offsets_verdict.proofs.rows_verdict.Goals as goal

pub rows_fault-requires : goal.rows_fault-requires
rows_fault-requires c =
    (text_counted c.args.text.now c.requires _ c.count_starts-total.ensures, div-mul-le_self _ row_width)

pub returns : goal.returns
returns c =
    let text = c.args.text.now in
    let k = text_counted text c.requires _ c.count_starts-total.ensures in
    let rows = several row_at row_width (length c.args.rows.now / row_width) c.args.rows.now in
    c.told.ensures
    ∙ ap₂ of_fault
    (c.rows_fault.ensures ∙ ap (λ (way : Way). rows_fault (fault_by way text) rows) c.looked_at-looked.ensures ∙ looked_same k c.args.way rows)
    k.all
