-- `has_id` meets its contract. Assumes nothing.
use mathlib.Core.Path.{◌∙◌}
use Prim.Native.Nat.{◌+◌, ◌*◌}
use native.Mathlib.Omega.{arith}
use Rattle.template_entries.specs.Table.{entry_width}
use Rattle.template_find.proofs.Finding.{id_inside, id_same}
use Rattle.template_find.proofs.has_id.Goals as goal

pub overflow_cast-start : goal.overflow_cast-start
overflow_cast-start c = omega (arith, c.type_inv.entries (c.args.i * entry_width + 0))

pub slice_bounds-same-end : goal.slice_bounds-same-end
slice_bounds-same-end c =
    let asked = c.requires in
    omega (arith, c.end_of-end.ensures, id_inside asked.ids asked.among)

pub returns : goal.returns
returns c =
    let asked = c.requires in
    c.same.ensures ∙ id_same asked.ids asked.among _ c.end_of-end.ensures
