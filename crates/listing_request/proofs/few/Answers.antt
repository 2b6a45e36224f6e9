-- `few` tests the row count. Assumes nothing.
use borrow.Author.Tests.{le-leb, lt-leb}
use Rattle.listing_request.proofs.few.Goals as goal

pub returns-then-rows-le-MOST_ROWS : goal.returns-then-rows-le-MOST_ROWS
returns-then-rows-le-MOST_ROWS c = rw (le-leb _ _ c.if-rows-le-MOST_ROWS.true)

pub returns : goal.returns
returns c = rw (lt-leb _ _ c.if-rows-le-MOST_ROWS.false)
