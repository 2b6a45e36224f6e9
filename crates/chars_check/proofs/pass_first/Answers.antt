-- `pass_first` meets its contract: over what is plain, then over one character. Assumes nothing.
use Rattle.chars_check.proofs.Passing.{walking_size, walking_stop, block_broken, skipped_walking, block_all_plain, block_first}
use native.Mathlib.Omega.{arith}
use Rattle.chars_check.proofs.pass_first.Goals as goal

pub returns-then-first-to : goal.returns-then-first-to
returns-then-first-to c = block_all_plain c.requires c.skip_plain-first.ensures c.if-first-to.true

pub character_at-size-requires : goal.character_at-size-requires
character_at-size-requires c =
    omega (arith, c.skip_plain-first.ensures.few, c.if-first-to.false, c.requires.1)

pub returns-then-size-eq0 : goal.returns-then-size-eq0
returns-then-size-eq0 c =
    let b = c.requires in
    let p = c.skip_plain-first.ensures in
    block_broken b (walking_stop (skipped_walking b p) _ _ c.character_at-size.ensures c.if-size-eq0.true) (omega (arith, p.few, c.if-first-to.false))

pub overflow_add-result : goal.overflow_add-result
overflow_add-result c =
    omega (arith, walking_size (skipped_walking c.requires c.skip_plain-first.ensures) _ c.character_at-size.ensures)

pub returns : goal.returns
returns c =
    block_first c.requires c.skip_plain-first.ensures _ c.character_at-size.ensures c.if-size-eq0.false
