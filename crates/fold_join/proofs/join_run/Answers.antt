-- `join_run` folds the run into a node of its own and the rows after those in the output, and joins that. Assumes nothing.
use mathlib.Core.Path.{◌≡◌, ap}
use Prim.Native.Nat.{◌*◌}
use mathlib.Core.List.{[], ◌∷◌}
use native.Mathlib.Omega.{arith}
use Rattle.record.specs.Tree.{Encoding, forest}
use Rattle.record.specs.Flat.{row_width}
use Rattle.record.specs.WellFormed.{rows_in}
use Rattle.record.proofs.Here.{here_rows_fit}
use Rattle.record_extent.specs.Size.{size_of}
use Rattle.record_extent.specs.declared.Extent.{Extent}
use Rattle.record_extent.proofs.Stands.{here_stands}
use Rattle.fold_append.proofs.Empty.{empty_long}
use Rattle.fold_join.proofs.Asked.{ends_row, run_stores, beside_fits, asks_each}
use Rattle.fold_join.proofs.Joining.{asks_after, run_joined}
use Rattle.fold_join.proofs.join_run.Goals as goal

-- where the rows in the output end, of the encoding that stands there
rows_end : {own : Extent} (S : Encoding) → own ≡ size_of (forest (S ∷ [])) → own.rows * row_width ≡ rows_in (forest (S ∷ [])) * row_width
rows_end {own} S e = ap (λ (s : Extent). s.rows * row_width) e

-- the rows of the run end within the batch
pub slice_bounds-fold_each-end-2 : goal.slice_bounds-fold_each-end-2
slice_bounds-fold_each-end-2 c =
    let a = c.requires.2 in
    omega (arith, here_rows_fit a.here_p, (ends_row a).0, (ends_row a).1)

-- the rows that are there end within the output
pub slice_bounds-fold_each-count-3 : goal.slice_bounds-fold_each-count-3
slice_bounds-fold_each-count-3 c =
    let a = c.requires.2 in
    beside_fits a (rows_end c.requires.0 (c.measure-own.ensures _ (here_stands a.here_s)))

pub slice_bounds-fold_each-start-3 : goal.slice_bounds-fold_each-start-3
slice_bounds-fold_each-start-3 c =
    let a = c.requires.2 in
    beside_fits a (rows_end c.requires.0 (c.measure-own.ensures _ (here_stands a.here_s)))

-- the node lent has the width of a node
pub fold_each-requires : goal.fold_each-requires
fold_each-requires c =
    let a = c.requires.2 in
    asks_each a (rows_end c.requires.0 (c.measure-own.ensures _ (here_stands a.here_s))) (empty_long c.empty-node.ensures)

pub join_after-requires : goal.join_after-requires
join_after-requires c =
    let a = c.requires.2 in
    asks_after a (rows_end c.requires.0 (c.measure-own.ensures _ (here_stands a.here_s))) (empty_long c.empty-node.ensures) (c.fold_each.ensures _ (run_stores a)) c.fold_each.auto.working_nodes c.fold_each.auto.working_rows

pub returns : goal.returns
returns c = λ S Ps a.
    run_joined a (rows_end S (c.measure-own.ensures _ (here_stands a.here_s))) (empty_long c.empty-node.ensures) (c.fold_each.ensures _ (run_stores a)) c.join_after.ensures
