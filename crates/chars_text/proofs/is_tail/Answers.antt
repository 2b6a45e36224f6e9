-- `is_tail` meets its contract: the two tests are those of the range. Assumes nothing.
use borrow.Author.Tests.{lt-leb, le-leb}
use Rattle.chars_text.specs.Utf8.{octets}
use Rattle.chars_text.proofs.is_tail.Goals as goal

pub returns-then-byte-ge128 : goal.returns-then-byte-ge128
unfolding octets
returns-then-byte-ge128 c = simp (le-leb _ _ c.if-byte-ge128.true)

pub returns-else-byte-ge128 : goal.returns-else-byte-ge128
unfolding octets
returns-else-byte-ge128 c = simp (lt-leb _ _ c.if-byte-ge128.false)
