-- `mark_ranges` marks one sequence after another: after k turns, those with an id below k. Assumes nothing.
use mathlib.Core.Path.{◌≡◌, sym, ap, ◌∙◌, subst}
use Prim.Native.Nat.{◌*◌, ◌≤◌}
use mathlib.Core.List.{◌++◌}
use lib.ListN.{length}
use Rattle.record.proofs.One.{one_nodes_long}
use Rattle.record.specs.declared.Bounds.{Bounds}
use Rattle.lookup_ranges.specs.Ranges.{n_sequences}
use Rattle.lookup_ranges.proofs.Ranges.{range_within}
use Rattle.lookup_ranges.proofs.Marking.{column_start, marks_sequence, column_all}
use native.Mathlib.Omega.{arith}
use Rattle.lookup_ranges.proofs.mark_ranges.Goals as goal

pub count_of-n-requires : goal.count_of-n-requires
count_of-n-requires c = one_nodes_long c.requires.is

pub loop-k-init : goal.loop-k-init
loop-k-init c = λ rows E h rest e. e ∙ ap (◌++ rest) (sym (column_start E))

pub range_of-requires : goal.range_of-requires
range_of-requires c = one_nodes_long c.requires.is

pub mark-requires : goal.mark-requires
mark-requires c =
    let pre = c.requires in
    let within = range_within pre.is c.loop-k.k in
    subst (λ (b : Bounds). (b.start ≤ b.end) × (2 * b.end ≤ length c.loop-k.out)) (sym (c.range_of.ensures pre.rows pre.tree pre.is))
    (within.0, omega (arith, within.1, pre.fits))

pub loop-k-preserved : goal.loop-k-preserved
loop-k-preserved c = λ rows E h rest e.
    marks_sequence E c.loop-k.k _ _ _ rest (c.range_of.ensures rows E h) (range_within h c.loop-k.k).1 c.mark.ensures (c.loop-k.invariant rows E h rest e)

pub returns : goal.returns
returns c = λ rows E h rest e.
    let all : c.loop-k.k ≡ n_sequences E = omega (arith, c.count_of-n.ensures rows E h) in
    c.loop-k.invariant rows E h rest e ∙ ap (◌++ rest) (column_all E c.loop-k.k all)
