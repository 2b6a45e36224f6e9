-- `first_holding` finds the first range that holds the row, and counts the row from its start: after k turns none before place
-- k does. Assumes nothing.
use mathlib.Core.Path.{refl, sym, ap, ◌∙◌}
use mathlib.Core.Logic.{inl, inr}
use mathlib.Core.Option.{map}
use Rattle.lookup_holding.specs.Promises.{sequence_found, from_start}
use Rattle.lookup_holding.proofs.Holding.{holding_here, holding_next, holding_end, first_placed_lem}
use Rattle.lookup_holding.proofs.first_holding.Goals as goal
use Rattle.lookup_holding.proofs.first_holding.Goals.{else-nodes-at-eq1-via-then-nodes-at-eq1+then-start-row+else-row-nodes, else-nodes-at-eq1-via-then-nodes-at-eq1+else-start-row, else-nodes-at-eq1-via-else-nodes-at-eq1}

pub loop-k-init : goal.loop-k-init
loop-k-init c = λ rows E h. refl

pub returns-then-row-nodes : goal.returns-then-row-nodes
returns-then-row-nodes c = λ rows E h.
    let row = c.args.row in
    let below = c.loop-k-test.true in
    let found = holding_here h row c.loop-k.k below c.if-nodes-at-eq1.true c.if-start-row.true c.if-row-nodes.true in
    ap sequence_found (sym (first_placed_lem h row c.loop-k.k (c.loop-k.invariant rows E h ∙ found) below))

pub loop-k-preserved : goal.loop-k-preserved
loop-k-preserved c =
    let row = c.args.row in
    λ rows E h.
    c.loop-k.invariant rows E h
    ∙ holding_next h row c.loop-k.k c.loop-k-test.true (
    elim c.else-nodes-at-eq1.branch [
      | else-nodes-at-eq1-via-then-nodes-at-eq1+then-start-row+else-row-nodes w ↦ inr (inr w.if-row-nodes.false)
      | else-nodes-at-eq1-via-then-nodes-at-eq1+else-start-row w ↦ inr (inl w.if-start-row.false)
      | else-nodes-at-eq1-via-else-nodes-at-eq1 w ↦ inl w.if-nodes-at-eq1.false
    ]
    )

pub returns : goal.returns
returns c = λ rows E h.
    let row = c.args.row in
    ap (λ o. sequence_found (map (from_start E row) o)) (sym (c.loop-k.invariant rows E h ∙ holding_end h row c.loop-k.k c.loop-k-test.false))
