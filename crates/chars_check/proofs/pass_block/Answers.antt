-- `pass_block` meets its contract: over a block of bytes that are characters by themselves, else over the first longer character or over
-- all characters.
-- Assumes nothing.
use Prim.Native.Nat.{◌+◌, ◌≤◌, ◌<◌}
use lib.ListN.{length}
use native.Mathlib.Omega.{arith}
use Rattle.chars_count.specs.Promises.{block_bytes}
use Rattle.chars_check.proofs.Passing.{block_plain, block_broken, block_walked}
use Rattle.chars_check.proofs.pass_block.Goals as goal
use Rattle.chars_check.proofs.pass_block.Lts as Lts
use Rattle.chars_check.proofs.pass_block.Reads as Reads
use Rattle.chars_check.proofs.pass_block.Tie as tie

-- ---- Places in the code

abbrev After-walk-next : Type 0
After-walk-next = Lts.After-walk tie.the-claims Reads.Pre Reads.Post

abbrev Start : Type 0
Start = Lts.Start tie.the-claims Reads.Pre Reads.Post

-- ---- The places that others look back to
abbrev start : After-walk-next → Start
start c = c.before.before.before.before.before.before

-- the block is one of the text
whole : (c : Start) → (c.args.at < c.args.at + block_bytes) × (c.args.at + block_bytes ≤ length c.args.text.now)
whole c = (omega arith, c.requires)

pub returns-then-longs-eq0 : goal.returns-then-longs-eq0
returns-then-longs-eq0 c = block_plain (whole c.before.before.before.before.before) _ c.count_longs-longs.ensures c.if-longs-eq0.true

pub returns-then-next-to : goal.returns-then-next-to
returns-then-next-to c = block_broken (whole (start c.before.before)) c.walk-next.ensures c.if-next-to.true

pub returns : goal.returns
returns c = block_walked (whole (start c.before.before)) c.walk-next.ensures c.if-next-to.false
