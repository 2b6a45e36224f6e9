-- `first_holding` walks the rows until one holds the place. Assumes nothing.
use mathlib.Core.Path.{sym, ap}
use borrow.Author.Tests.{le-leb, lt-leb, lt-ltb, le-ltb}
use Rattle.lookup_search.specs.Answers.{token_answer}
use Rattle.lookup_search.proofs.Holding.{passed_start, passed_hit, passed_miss, passed_end}
use Rattle.lookup_search.proofs.first_holding.Goals as goal
use Rattle.lookup_search.proofs.first_holding.Goals.{else-rows-at-via-then-rows-at+else-place-rows, else-rows-at-via-else-rows-at}

pub loop-i-init : goal.loop-i-init
loop-i-init c = passed_start _ _ _ _

pub returns-then-place-rows : goal.returns-then-place-rows
returns-then-place-rows c =
    λ l h k. ap token_answer (sym (passed_hit _ _ _ _ _ c.loop-i.invariant c.loop-i-test.true (rw (le-leb _ _ c.if-rows-at.true, lt-ltb _ _ c.if-place-rows.true)) l h k))

pub loop-i-preserved : goal.loop-i-preserved
loop-i-preserved c =
    passed_miss _ _ _ _ _ c.loop-i.invariant c.loop-i-test.true
    (elim c.else-rows-at.branch [
      | else-rows-at-via-then-rows-at+else-place-rows w ↦ rw (le-leb _ _ w.if-rows-at.true, le-ltb _ _ w.if-place-rows.false)
      | else-rows-at-via-else-rows-at w ↦ rw (lt-leb _ _ w.if-rows-at.false)
    ])

pub returns : goal.returns
returns c = λ l h k. ap token_answer (sym (passed_end _ _ _ _ _ c.loop-i.invariant c.loop-i-test.false l h k))
