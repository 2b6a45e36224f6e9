-- `first_in_two` meets its contract: in ranges that come one after another no row lies in two. Assumes nothing.
use Rattle.profile_order.proofs.Ordering.{none_shared}
use Rattle.profile_order.proofs.first_in_two.Goals as goal

pub returns-then-in_order : goal.returns-then-in_order
returns-then-in_order c = none_shared _ _ (c.in_order.ensures c.if-in_order.true)
