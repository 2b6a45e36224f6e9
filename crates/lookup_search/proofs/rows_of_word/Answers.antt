-- `rows_of_word` walks the rows until one has a higher word. Assumes nothing.
use mathlib.Core.Path.{sym, ap, ◌∙◌}
use Rattle.lookup_search.specs.Answers.{tokens_answer}
use Rattle.lookup_search.proofs.Words.{walked_start, walked_none, walked_below, walked_match, walked_above, walked_end}
use Rattle.lookup_search.proofs.rows_of_word.Goals as goal
use Rattle.lookup_search.proofs.rows_of_word.Goals.{then-rows-at-eq1+else-found-word+then-found-word-2, then-rows-at-eq1+else-found-word+else-found-word-2, else-rows-at-eq1}

pub loop-i-init : goal.loop-i-init
loop-i-init c = walked_start _ _ _ _

pub returns-then-found-word : goal.returns-then-found-word
returns-then-found-word c =
    λ l h k. c.seen.ensures ∙ ap tokens_answer (sym (walked_above _ _ _ _ _ _ _ c.loop-i.invariant c.loop-i-test.true c.if-rows-at-eq1.true c.if-found-word.true l h k))

pub loop-i-preserved : goal.loop-i-preserved
loop-i-preserved c =
    let inv = c.loop-i.invariant in
    let more = c.loop-i-test.true in
    elim c.if-rows-at-eq1.branch [
      | then-rows-at-eq1+else-found-word+then-found-word-2 w ↦ rw (w.first-is, w.after-is, w.earliest-first.ensures) (walked_match _ _ _ _ _ _ _ inv more w.if-rows-at-eq1.true w.if-found-word-2.true)
      | then-rows-at-eq1+else-found-word+else-found-word-2 w ↦ rw (w.first-is, w.after-is) (walked_below _ _ _ _ _ _ _ inv more w.if-rows-at-eq1.true w.if-found-word.false w.if-found-word-2.false)
      | else-rows-at-eq1 w ↦ rw (w.first-is, w.after-is) (walked_none _ _ _ _ _ _ _ inv more w.if-rows-at-eq1.false)
    ]

pub returns : goal.returns
returns c = λ l h k. c.seen-2.ensures ∙ ap tokens_answer (sym (walked_end _ _ _ _ _ _ _ c.loop-i.invariant c.loop-i-test.false l h k))
