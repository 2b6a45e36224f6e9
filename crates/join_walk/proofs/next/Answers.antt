-- `next`: what measures the encoding at s says how far it goes. Assumes nothing.
use mathlib.Core.Path.{ap}
use mathlib.Core.List.{[], ◌∷◌}
use Prim.Native.Nat.{◌+◌, ◌*◌}
use native.Mathlib.Omega.{arith}
use Rattle.record.specs.Tree.{forest}
use Rattle.record.specs.Flat.{row_width, node_width}
use Rattle.record_extent.specs.declared.Extent.{Extent}
use Rattle.record.specs.Standing.{spot}
use Rattle.join_walk.proofs.next.Goals as goal

pub measure-size-requires : goal.measure-size-requires
measure-size-requires c = let a = c.requires in (forest (a.E ∷ []), a.stands)

pub overflow_mul-result : goal.overflow_mul-result
overflow_mul-result c =
    let a = c.requires in
    omega (arith, ap (λ (e : Extent). e.nodes) (c.measure-size.ensures (forest (a.E ∷ [])) a.stands), a.nodes_fit)

pub overflow_add-result : goal.overflow_add-result
overflow_add-result c =
    let a = c.requires in
    omega (arith, ap (λ (e : Extent). e.nodes) (c.measure-size.ensures (forest (a.E ∷ [])) a.stands), a.nodes_fit)

pub overflow_mul-result-2 : goal.overflow_mul-result-2
overflow_mul-result-2 c =
    let a = c.requires in
    omega (arith, ap (λ (e : Extent). e.rows) (c.measure-size.ensures (forest (a.E ∷ [])) a.stands), a.rows_fit)

pub overflow_add-result-2 : goal.overflow_add-result-2
overflow_add-result-2 c =
    let a = c.requires in
    omega (arith, ap (λ (e : Extent). e.rows) (c.measure-size.ensures (forest (a.E ∷ [])) a.stands), a.rows_fit)

pub returns : goal.returns
returns c =
    let s = c.args.s in
    λ E h. ap (λ (e : Extent). spot (s.node + e.nodes * node_width) (s.row + e.rows * row_width)) (c.measure-size.ensures (forest (E ∷ [])) h)
