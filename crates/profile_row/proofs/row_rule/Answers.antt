-- `row_rule` meets its contract, rule by rule in the order of their numbers. Assumes nothing.
use Rattle.profile_row.proofs.Lowest.{column, at_special, at_attention, MasksFine, masks_fine, rule_special, rule_attention, rule_unattended, rule_passes, rule_falls, rule_outside, rule_no_word, rule_not_below}
use Rattle.profile_row.proofs.row_rule.Goals as goal
use Rattle.profile_row.proofs.row_rule.Goals.{then-attention-eq0+else-special-ne1, else-attention-eq0}
use Rattle.profile_row.proofs.row_rule.Lts as Lts
use Rattle.profile_row.proofs.row_rule.Reads as Reads

-- ---- Places in the code

abbrev Joined-attention-eq0 : Type 0
Joined-attention-eq0 = Lts.Joined3 Reads.Pre Reads.Post

-- past the rules on masks
fine : (c : Joined-attention-eq0) → let a = c.args in MasksFine (column a.rows.now a.at at_special) (column a.rows.now a.at at_attention)
fine c = masks_fine _ _ c.if-special-gt1.false c.if-attention-gt1.false (elim c.if-attention-eq0.branch [ then-attention-eq0+else-special-ne1 w ↦ λ z. w.if-special-ne1.false | else-attention-eq0 w ↦ λ z. absurd (w.if-attention-eq0.false z) ])

pub returns-then-special-gt1 : goal.returns-then-special-gt1
returns-then-special-gt1 c = let a = c.args in rule_special a.words a.last a.rows.now a.at c.if-special-gt1.true

pub returns-then-attention-gt1 : goal.returns-then-attention-gt1
returns-then-attention-gt1 c = let a = c.args in rule_attention a.words a.last a.rows.now a.at c.if-special-gt1.false c.if-attention-gt1.true

pub returns-then-special-ne1 : goal.returns-then-special-ne1
returns-then-special-ne1 c =
    let a = c.args in
    rule_unattended a.words a.last a.rows.now a.at c.if-special-gt1.false c.if-attention-gt1.false c.if-attention-eq0.true c.if-special-ne1.true

pub returns-then-rows-at : goal.returns-then-rows-at
returns-then-rows-at c =
    let masks = c.before.before.before.before in
    let a = masks.args in
    rule_passes a.words a.last a.rows.now a.at (fine masks) c.if-rows-at.true

pub returns-then-rows-at-2 : goal.returns-then-rows-at-2
returns-then-rows-at-2 c =
    let offsets = c.before.before.before.before.before.before in
    let masks = offsets.before.before.before in
    let a = masks.args in
    rule_falls a.words a.last a.rows.now a.at (fine masks) offsets.if-rows-at.false c.if-words.true c.if-rows-at-eq1.true c.if-rows-at-2.true

pub returns-else-rows-at-2 : goal.returns-else-rows-at-2
returns-else-rows-at-2 c =
    let offsets = c.before.before.before.before.before.before in
    let masks = offsets.before.before.before in
    let a = masks.args in
    rule_not_below a.words a.last a.rows.now a.at (fine masks) offsets.if-rows-at.false c.if-words.true c.if-rows-at-eq1.true c.if-rows-at-2.false

pub returns-else-rows-at-eq1 : goal.returns-else-rows-at-eq1
returns-else-rows-at-eq1 c =
    let offsets = c.before.before.before.before in
    let masks = offsets.before.before.before in
    let a = masks.args in
    rule_no_word a.words a.last a.rows.now a.at (fine masks) offsets.if-rows-at.false c.if-words.true c.if-rows-at-eq1.false

pub returns-else-words : goal.returns-else-words
returns-else-words c =
    let offsets = c.before.before in
    let masks = offsets.before.before.before in
    let a = masks.args in
    rule_outside a.words a.last a.rows.now a.at (fine masks) offsets.if-rows-at.false c.if-words.false
