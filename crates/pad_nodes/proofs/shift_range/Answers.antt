-- `shift_range` copies an absent range, and writes a present one anew. Assumes nothing.
use mathlib.Core.Path.{ap, ◌∙◌}
use native.Mathlib.Omega.{arith}
use lib.Seq.{sets}
use Rattle.record.specs.Tree.{Range}
use Rattle.record.specs.Flat.{range_numbers}
use Rattle.pad_nodes.proofs.Ranges.{start_at, end_at, absent_copied, shifted_anew}
use Rattle.pad_nodes.proofs.shift_range.Goals as goal

pub returns-then-nodes-at-eq0 : goal.returns-then-nodes-at-eq0
returns-then-nodes-at-eq0 c =
    c.copy.ensures ∙ ap (sets c.args.out.now c.args.at) (absent_copied c.args.nodes.now c.args.at c.args.shift c.requires.stands c.if-nodes-at-eq0.true)

pub overflow_add-nodes : goal.overflow_add-nodes
overflow_add-nodes c =
    omega (arith, start_at c.args.nodes.now c.args.at, c.requires.small.1, c.requires.few)

pub overflow_add-nodes-2 : goal.overflow_add-nodes-2
overflow_add-nodes-2 c =
    omega (arith, end_at c.args.nodes.now c.args.at, c.requires.small.2, c.requires.few)

pub returns : goal.returns
returns c =
    c.write_range.ensures ∙ ap (λ (r : Range). sets c.args.out.now c.args.at (range_numbers r)) (shifted_anew c.args.nodes.now c.args.at c.args.shift c.requires.small c.if-nodes-at-eq0.false)
