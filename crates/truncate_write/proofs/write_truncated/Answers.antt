-- `write_truncated` writes what the cut makes, by the decision on it. Assumes nothing.
use mathlib.Core.Path.{sym}
use native.Mathlib.Omega.{arith}
use Rattle.record.proofs.Here.{here_nodes_fit, here_size, here_own}
use Rattle.truncate_write.proofs.Cutting.{ask_whole, ask_emptied, ask_cut, ask_refused, made_whole, made_emptied, made_cut}
use Rattle.truncate_write.proofs.write_truncated.Goals as goal

pub offset_bounds-nodes-i : goal.offset_bounds-nodes-i
offset_bounds-nodes-i c = omega (arith, here_nodes_fit c.requires.here)

pub bounds-nodes-i : goal.bounds-nodes-i
bounds-nodes-i c = omega (arith, here_nodes_fit c.requires.here)

pub copy_encoding-requires : goal.copy_encoding-requires
copy_encoding-requires c = ask_whole c.requires c.in-Whole.ensures

pub write_emptied-requires : goal.write_emptied-requires
write_emptied-requires c = ask_emptied c.requires c.in-Emptied.ensures

pub write_cut-requires : goal.write_cut-requires
write_cut-requires c = ask_cut c.requires c.args.direction c.in-Windows.ensures

pub returns-in-Whole : goal.returns-in-Whole
returns-in-Whole c =
    let v = c.args in
    λ E h e. made_whole h v.max v.stride v.direction c.in-Whole.ensures (c.copy_encoding.ensures E h e)

pub returns-in-Emptied : goal.returns-in-Emptied
returns-in-Emptied c =
    let v = c.args in
    λ E h e. made_emptied h v.max v.stride v.direction c.in-Emptied.ensures (c.write_emptied.ensures E h e)

pub returns-in-StrideRefused : goal.returns-in-StrideRefused
returns-in-StrideRefused c = λ E h e. absurd (ask_refused c.requires c.in-StrideRefused.ensures)

pub returns-in-Windows : goal.returns-in-Windows
returns-in-Windows c =
    let v = c.args in
    λ E h e. made_cut h v.max v.stride v.direction c.in-Windows.ensures (c.write_cut.ensures E.rows (here_own h) (sym (here_size h)))
