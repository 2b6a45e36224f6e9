-- `far_within` bounds each step of a fold at once. Assumes nothing.
use borrow.Author.Tests.{leb-true}
use native.Mathlib.Omega.{arith}
use native.Mathlib.Nat.{mul-le-mul_right}
use Prim.Native.Nat.{ℕ, ◌+◌, ◌*◌, ◌/◌, ◌≤◌}
use mathlib.Core.List.{List}
use mathlib.Core.Path.{◌≡◌, sym, ap}
use lib.ListN.{length}
use Rattle.record.specs.Flat.{node_width}
use Rattle.record.specs.Tree.{Forest}
use Rattle.record.specs.WellFormed.{most_nodes, nodes_in, Stores}
use Rattle.record.specs.Walk.{all_rows}
use Rattle.join_trees.specs.Offsets.{most_offset}
use Rattle.join_reach.specs.Reach.{largest_offset, largest, largest_base}
use Rattle.join_offsets.proofs.Far.{far_fold}
use Rattle.join_offsets.proofs.Given.{offset_all, stores_here, nodes_from, rows_from_lem, nodes_counted, rows_counted}
use Rattle.join_offsets.proofs.far_within.Goals as goal

-- few nodes, each as many times as another
few_times : {nodes rows : List ℕ} {f : Forest} → Stores nodes rows f → (b : ℕ) → length nodes / node_width * b ≤ most_nodes * b
few_times s b = mul-le-mul_right b (omega (arith, nodes_counted s, s.well.fits.few_nodes))

pub largest_base-base-requires : goal.largest_base-base-requires
largest_base-base-requires c =
    let a = c.requires in
    (a.0, nodes_from (stores_here a.1) (nodes_counted a.1))

pub offset_bound-bound-requires : goal.offset_bound-bound-requires
offset_bound-bound-requires c =
    let a = c.requires in
    (all_rows a.0, rows_from_lem (stores_here a.1) (rows_counted a.1))

pub overflow_mul-result : goal.overflow_mul-result
overflow_mul-result c = omega (arith, few_times c.requires.1 c.largest_base-base.result)

pub overflow_add-result : goal.overflow_add-result
overflow_add-result c = omega (arith, few_times c.requires.1 c.largest_base-base.result)

pub returns : goal.returns
returns c = λ f s t.
    let count = length c.args.nodes.now / node_width in
    let most = c.largest_base-base.result in
    let more = c.offset_bound-bound.result in
    let base : most ≡ largest_base f = c.largest_base-base.ensures f (nodes_from (stores_here s) (nodes_counted s)) in
    let bound : largest largest_offset f ≤ more = omega (arith, offset_all f, c.offset_bound-bound.ensures (all_rows f) (rows_from_lem (stores_here s) (rows_counted s))) in
    let times : count * most ≡ nodes_in f * most = ap (◌* most) (nodes_counted s) in
    far_fold most more f (sym base) bound (omega (arith, leb-true (count * most + more) most_offset t))
