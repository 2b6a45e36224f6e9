-- `copy_encoding` writes what stands there, as it is. Assumes nothing.
use mathlib.Core.Path.{ap}
use native.Mathlib.Omega.{arith}
use Rattle.record_extent.specs.declared.Extent.{Extent}
use Rattle.record.proofs.Here.{here_nodes_fit, here_rows_fit}
use Rattle.truncate_write.proofs.Placing.{copy_put}
use Rattle.truncate_write.proofs.copy_encoding.Goals as goal

pub copy-requires : goal.copy-requires
copy-requires c =
    let q = c.requires in
    (omega (arith, here_nodes_fit q.here, ap (λ (s : Extent). s.nodes) q.measured), q.nodes_fit)

pub copy-requires-2 : goal.copy-requires-2
copy-requires-2 c =
    let q = c.requires in
    (omega (arith, here_rows_fit q.here, ap (λ (s : Extent). s.rows) q.measured), q.rows_fit)

pub returns : goal.returns
returns c = λ E h e. copy_put h e c.copy.ensures c.copy-2.ensures
