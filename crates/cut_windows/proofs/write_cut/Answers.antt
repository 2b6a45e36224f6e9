-- `write_cut` writes the windows and then the number of those after the first into the first's node. Assumes nothing.
use native.Mathlib.Omega.{arith}
use Rattle.cut_plan.specs.Cut.{windows_of}
use Rattle.cut_plan.proofs.Windows.{windows_count}
use Rattle.cut_windows.proofs.Gathering.{gathered_put}
use Rattle.cut_windows.proofs.write_cut.Goals as goal

pub overflow_sub-out_nodes : goal.overflow_sub-out_nodes
overflow_sub-out_nodes c =
    omega (arith, c.requires.1, windows_count c.requires.0.cut c.args.direction)

pub bounds-out_nodes-a : goal.bounds-out_nodes-a
bounds-out_nodes-a c =
    omega (arith, c.write_windows.auto.out_nodes, c.requires.0.nodes_fit, windows_count c.requires.0.cut c.args.direction)

pub returns : goal.returns
returns c =
    let v = c.args in
    λ R h l.
    gathered_put R (windows_of v.n v.max v.stride v.direction) c.requires.1
    (omega (arith, c.requires.1, windows_count c.requires.0.cut v.direction))
    (c.write_windows.ensures R h l)
