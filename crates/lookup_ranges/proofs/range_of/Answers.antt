-- `range_of` reads the range of a sequence, or all rows. Assumes nothing.
use mathlib.Core.Logic.{inl, inr}
use Rattle.lookup_ranges.proofs.Ranges.{range_there, range_all}
use Rattle.lookup_ranges.proofs.range_of.Goals as goal
use Rattle.lookup_ranges.proofs.range_of.Goals.{then-k-lt-SEQUENCES+else-nodes-at-eq1, else-k-lt-SEQUENCES}

pub returns-then-nodes-at-eq1 : goal.returns-then-nodes-at-eq1
returns-then-nodes-at-eq1 c = λ rows E h.
    let v = c.args in
    range_there h v.sequence_id c.if-k-lt-SEQUENCES.true c.if-nodes-at-eq1.true

pub returns : goal.returns
returns c = λ rows E h.
    let v = c.args in
    range_all h v.sequence_id
    (elim c.if-k-lt-SEQUENCES.branch [
      | then-k-lt-SEQUENCES+else-nodes-at-eq1 w ↦ inr (w.if-k-lt-SEQUENCES.true, w.if-nodes-at-eq1.false)
      | else-k-lt-SEQUENCES w ↦ inl w.if-k-lt-SEQUENCES.false
    ])
