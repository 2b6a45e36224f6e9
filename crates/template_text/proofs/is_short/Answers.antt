-- `is_short` meets its contract. Assumes nothing.
use Rattle.template_text.proofs.Answers.{few_parts}
use borrow.Author.Tests.{le-leb, lt-leb}
use Rattle.template_text.proofs.is_short.Goals as goal

pub returns-then-text-gt-MOST_BYTES : goal.returns-then-text-gt-MOST_BYTES
returns-then-text-gt-MOST_BYTES c = rw (lt-leb _ _ c.if-text-gt-MOST_BYTES.true)

pub returns-then-text-lt-MOST_PARTS : goal.returns-then-text-lt-MOST_PARTS
returns-then-text-lt-MOST_PARTS c = rw (le-leb _ _ c.if-text-gt-MOST_BYTES.false, le-leb _ _ (few_parts c.args.text.now c.if-text-lt-MOST_PARTS.true))

pub returns : goal.returns
returns c = rw (le-leb _ _ c.if-text-gt-MOST_BYTES.false, c.count_parts.ensures)
