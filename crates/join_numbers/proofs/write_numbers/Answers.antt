-- `write_numbers` writes the counts, copies S's ranges, and lays P's over them. Assumes nothing.
use mathlib.Core.Path.{ap₂, ◌∙◌}
use lib.ListN.{length-set}
use Rattle.join_trees.specs.Join.{window_count}
use Rattle.join_ranges.proofs.Nodes.{node_count_lem, node_windows}
use Rattle.join_numbers.proofs.Numbers.{numbers_asks, numbers_written}
use native.Mathlib.Omega.{arith}
use Rattle.join_numbers.proofs.write_numbers.Goals as goal

pub window_count-windows-requires : goal.window_count-windows-requires
window_count-windows-requires c =
    let ask = c.requires in
    let s = ask.there_s in
    let p = ask.there_p in
    (omega (arith, node_windows s, s.few_windows), omega (arith, node_windows p, p.few_windows))

pub overflow_add-out_nodes : goal.overflow_add-out_nodes
overflow_add-out_nodes c =
    let ask = c.requires in
    omega (arith, ask.few_rows, node_count_lem ask.there_s, node_count_lem ask.there_p)

pub overflow_cast-out_nodes : goal.overflow_cast-out_nodes
overflow_cast-out_nodes c =
    let ask = c.requires in
    let e = c.window_count-windows.ensures ∙ ap₂ window_count (node_windows ask.there_s) (node_windows ask.there_p) in
    omega (arith, e, ask.few_windows)

pub bounds-out_nodes-at-2 : goal.bounds-out_nodes-at-2
bounds-out_nodes-at-2 c = simp length-set (omega arith)

pub copy-requires : goal.copy-requires
copy-requires c =
    let ask = c.requires in
    (omega (arith, ask.there_s.inside), simp length-set (omega (arith, ask.fits)))

pub lay_ranges-requires : goal.lay_ranges-requires
lay_ranges-requires c =
    let ask = c.requires in
    numbers_asks _ _ ask c.copy.ensures

pub shape_of-out_nodes : goal.shape_of-out_nodes
shape_of-out_nodes c =
    c.lay_ranges.auto.nodes ∙ c.copy.auto.dst ∙ simp length-set

pub returns : goal.returns
returns c =
    record { numbers = λ S P s p. numbers_written c.args.out_nodes.now S P s p c.requires.fits c.window_count-windows.result c.window_count-windows.ensures c.copy.ensures c.lay_ranges.ensures }
