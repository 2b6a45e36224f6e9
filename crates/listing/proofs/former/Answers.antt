-- `former` answers the one window that has rows. Assumes nothing.
use Rattle.listing.proofs.Choosing.{former_other}
use Rattle.listing.proofs.former.Goals as goal

pub returns-then-i-eq1 : goal.returns-then-i-eq1
returns-then-i-eq1 c = rw c.if-i-eq1.true

pub returns : goal.returns
returns c = former_other _ _ c.if-i-eq1.false
