-- `check_node` meets its contract: the fifth rule, and then the rules on rows, are all rules but the first. Assumes nothing.
use mathlib.Core.Path.{ap, ◌∙◌}
use lib.ListN.{get_or}
use Rattle.profile_trees.specs.Promises.{held, better}
use Rattle.profile_node.specs.Promises.{shared_break}
use Rattle.profile_node.proofs.Shared.{shared_known, shared_or_apart, node_found}
use Rattle.profile_node.proofs.check_node.Goals as goal

pub first_in_two-shared-requires : goal.first_in_two-shared-requires
first_in_two-shared-requires c = c.requires.at.fits

pub check_stretches-requires : goal.check_stretches-requires
check_stretches-requires c =
    let v = c.args in
    let t = c.requires in
    record { N = t.N; at = t.at; known = shared_known v.node c.first_in_two-shared.result (get_or v.nodes.now v.i 0) v.best c.with_shared-found.result t.known c.with_shared-found.ensures }

pub returns : goal.returns
returns c = λ N before at e unbroken.
    let s = c.first_in_two-shared in
    let found = better before (shared_break c.args.node s.result _) in
    c.check_stretches.ensures N found at (c.with_shared-found.ensures before e) (shared_or_apart at s.ensures c.args.node before)
    ∙ ap held (node_found at s.ensures c.args.node before unbroken)
