-- `check_rows` meets its contract. The loop's invariant, `Checking`: what was found is of the rows passed. Assumes nothing.
use mathlib.Core.Path.{◌≡◌, ◌∙◌}
use lib.ListN.{drop}
use native.Mathlib.Omega.{arith}
use Prim.Native.Nat.{◌+◌, ◌*◌}
use Rattle.record.specs.Flat.{row_width, row_at}
use Rattle.profile_trees.specs.Promises.{no_rule}
use Rattle.profile_row.specs.Promises.{lowest_rule}
use Rattle.profile_rows.proofs.OneRow.{lower, lower_taken, lower_left}
use Rattle.profile_rows.proofs.Checking.{checking_start, checking_next, checking_end}
use Rattle.profile_rows.proofs.check_rows.Goals as goal
use Rattle.profile_rows.proofs.check_rows.Goals.{then-row_wrong+then-rule-found, then-row_wrong+else-rule-found, else-row_wrong}

pub loop-row-init : goal.loop-row-init
loop-row-init c = checking_start _ _ _ _ _ _ _ (omega arith) (omega arith)

pub loop-row-preserved : goal.loop-row-preserved
loop-row-preserved c =
    let l = c.loop-row in
    let rule = lowest_rule c.args.words l.last (row_at (drop (c.args.first + l.row * row_width) c.args.rows.now)) in
    -- what is found after the row, by whether its rule is lower
    let turned : c.if-row_wrong.found ≡ lower rule c.args.node l.row l.found =
    elim c.if-row_wrong.branch [
      | then-row_wrong+then-rule-found w ↦ w.found-is ∙ lower_taken rule c.args.node l.row l.found w.row_rule-rule.ensures w.if-rule-found.true
      | then-row_wrong+else-rule-found w ↦
          w.found-is ∙ lower_left rule c.args.node l.row l.found (omega (arith, w.row_rule-rule.ensures, w.if-rule-found.false))
      | else-row_wrong w ↦
          let none : rule ≡ no_rule = c.row_wrong.ensures.none w.if-row_wrong.false in
          w.found-is ∙ lower_left rule c.args.node l.row l.found (omega (arith, none, l.invariant.few))
    ] in
    checking_next l.invariant c.loop-row-test.true turned c.word_after-last.ensures

pub returns : goal.returns
returns c = checking_end c.loop-row.invariant (omega arith)
