-- `character_at` meets its contract: each test on the way is one of the character's width, its second byte, its tails.
-- Assumes nothing.
use Rattle.chars_text.proofs.Sized.{Longer, ends_one, ends_none, ends_cut, ends_under, ends_over, ends_whole, ends_broken}
use borrow.Author.Rules.{rules}
use Rattle.chars_text.proofs.character_at.Goals as goal
use Rattle.chars_text.proofs.character_at.Lts as Lts
use Rattle.chars_text.proofs.character_at.Reads as Reads
use Rattle.chars_text.proofs.character_at.Tie as tie

-- ---- Places in the code

abbrev Else-size-eq0 : Type 0
Else-size-eq0 = Lts.Else2 tie.the-claims Reads.Pre Reads.Post

-- past the tests of the first byte
seen : (c : Else-size-eq0) → Longer c.args.text.now c.args.at c.width-size.result
seen c = record { inside = search rules; is = c.width-size.ensures; above = c.if-first-lt128.false; some = c.if-size-eq0.false }

pub returns-then-first-lt128 : goal.returns-then-first-lt128
returns-then-first-lt128 c = let asked = c.args in ends_one asked.text.now asked.at (search rules) c.if-first-lt128.true

pub returns-then-size-eq0 : goal.returns-then-size-eq0
returns-then-size-eq0 c =
    let asked = c.args in
    ends_none asked.text.now asked.at (search rules) c.width-size.result c.width-size.ensures c.if-size-eq0.true

pub returns-then-text-at : goal.returns-then-text-at
returns-then-text-at c = ends_cut (seen c.before.before) c.if-text-at.true

pub returns-then-second-low : goal.returns-then-second-low
returns-then-second-low c = let fits = c.before.before.before.before in ends_under (seen fits.before) fits.if-text-at.false c.low.ensures c.if-second-low.true

pub returns-then-high-second : goal.returns-then-high-second
returns-then-high-second c =
    let low = c.before.before.before.before in
    let fits = low.before.before in
    ends_over (seen fits.before) fits.if-text-at.false low.low.ensures c.high.ensures c.if-high-second.true

pub returns-then-tails : goal.returns-then-tails
returns-then-tails c =
    let tails = c.before.before in
    let high = tails.before.before in
    let low = high.before.before in
    let fits = low.before.before in
    ends_whole (seen fits.before) fits.if-text-at.false low.low.ensures high.high.ensures high.if-second-low.false tails.if-high-second.false tails.tails.ensures c.if-tails.true

pub returns : goal.returns
returns c =
    let tails = c.before.before in
    let high = tails.before.before in
    let low = high.before.before in
    let fits = low.before.before in
    ends_broken (seen fits.before) fits.if-text-at.false low.low.ensures high.high.ensures high.if-second-low.false tails.if-high-second.false tails.tails.ensures c.if-tails.false
