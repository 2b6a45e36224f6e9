-- `write_emptied` writes the node of an empty encoding with one window, and below it what stands there. Assumes nothing.
use native.Mathlib.Omega.{arith}
use Rattle.truncate_write.proofs.Placing.{emptied_put}
use Rattle.truncate_write.proofs.write_emptied.Goals as goal

pub copy_encoding-requires : goal.copy_encoding-requires
copy_encoding-requires c =
    let q = c.requires in
    record { E = q.E; here = q.here; measured = q.measured; nodes_fit = omega (arith, q.nodes_fit, c.write_head.auto.nodes); rows_fit = q.rows_fit }

pub returns : goal.returns
returns c = λ E h e. emptied_put c.write_head.ensures (c.copy_encoding.ensures E h e)
