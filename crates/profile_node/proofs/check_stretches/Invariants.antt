-- `check_stretches` meets its contract. The loop's invariant, `Stretching`: the rows of the stretches passed, and that no range reaches over
-- the row that is next. Assumes nothing.
use mathlib.Core.Path.{◌≡◌}
use mathlib.Core.Logic.{◌⊎◌}
use mathlib.Core.Option.{Option}
use Prim.Native.Nat.{◌-◌, ◌≤◌}
use Rattle.profile_trees.specs.Rules.{BatchNode}
use Rattle.profile_trees.specs.Promises.{no_rule, held, LowerBroken}
use Rattle.profile_trees.specs.declared.Break.{Break}
use Rattle.profile_node.specs.Promises.{NodeStands, Apart}
use Rattle.profile_node.proofs.Stretching.{Stretching}
use Rattle.profile_node.proofs.check_stretches.Given as goal

abbrev pub invariant-loop-row : goal.invariant-loop-row
invariant-loop-row l = (l.row ≤ l.count) × (l.found.rule ≤ no_rule) × ((N : BatchNode) (before : Option Break) → NodeStands l.nodes l.i l.rows l.first N → l.initial.found ≡ held before → LowerBroken before ⊎ Apart N → Stretching N before l.node l.row l.found)

abbrev pub decreases-loop-row : goal.decreases-loop-row
decreases-loop-row l = l.count - l.row
