-- `with_shared` meets its contract: the fifth rule is told unless a lower one is broken, or itself was before. Assumes nothing.
use Rattle.profile_node.proofs.Shared.{shared_lower, shared_stays, shared_none}
use Rattle.profile_node.proofs.with_shared.Goals as goal

pub returns-then-best-gt5 : goal.returns-then-best-gt5
returns-then-best-gt5 c = let a = c.args in shared_lower a.node a.shared a.count a.best c.if-shared-count.true c.if-best-gt5.true

pub returns-else-best-gt5 : goal.returns-else-best-gt5
returns-else-best-gt5 c = let a = c.args in shared_stays a.node a.shared a.count a.best c.if-shared-count.true c.if-best-gt5.false

pub returns-else-shared-count : goal.returns-else-shared-count
returns-else-shared-count c = let a = c.args in shared_none a.node a.shared a.count a.best c.if-shared-count.false
