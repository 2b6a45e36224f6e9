-- `check_nodes` finds exactly the batches with fine ranges: each turn keeps `Kept`, and each way out shows its answer.
-- Assumes nothing.
use mathlib.Core.Path.{refl}
use Prim.Native.Nat.{ℕ, ◌-◌}
use native.Mathlib.Omega.{arith}
use mathlib.Core.List.{List}
use lib.ListN.{length, get_or}
use Rattle.record_fields.specs.Promises.{NodeFits}
use Rattle.record_fields.proofs.Decides.{decided, refuted}
use Rattle.record_check.proofs.Kept.{Due, kept_start, kept_end, kept_over, kept_pop, due_top, due_inner, due_unfit, due_deep, due_push, due_skip}
use Rattle.record_check.proofs.check_nodes.Goals as goal
use Rattle.record_check.proofs.check_nodes.Goals.{then-depth-eq0+else-i-nodes, else-depth-eq0+else-k-eq0}
use Rattle.record_check.proofs.check_nodes.Lts as Lts
use Rattle.record_check.proofs.check_nodes.Reads as Reads
use Rattle.record_check.proofs.check_nodes.Tie as tie

-- ---- Places in the code

abbrev After-shared_slice_known-in-loop-depth-2-1 : Type 0
After-shared_slice_known-in-loop-depth-2-1 = Lts.After-shared_slice_known4 tie.the-claims Reads.Pre Reads.Post goal.the-invariant-loop-depth goal.the-decreases-loop-depth

abbrev At-loop-depth : Type 0
At-loop-depth = Lts.At-loop tie.the-claims Reads.Pre Reads.Post goal.the-invariant-loop-depth goal.the-decreases-loop-depth

abbrev Else-not-node_fits : Type 0
Else-not-node_fits = Lts.Else5 tie.the-claims Reads.Pre Reads.Post goal.the-invariant-loop-depth goal.the-decreases-loop-depth

abbrev Joined-depth-eq0 : Type 0
Joined-depth-eq0 = Lts.Joined1 tie.the-claims Reads.Pre Reads.Post goal.the-invariant-loop-depth goal.the-decreases-loop-depth

abbrev Then-w-gt0 : Type 0
Then-w-gt0 = Lts.Then6 tie.the-claims Reads.Pre Reads.Post goal.the-invariant-loop-depth goal.the-decreases-loop-depth

-- ---- The places that others look back to
abbrev joined1 : After-shared_slice_known-in-loop-depth-2-1 → Joined-depth-eq0
joined1 c = c.before.before.before.before

abbrev else5 : Then-w-gt0 → Else-not-node_fits
else5 c = c.before.before.before

abbrev Nodes : At-loop-depth → List ℕ
Nodes c = c.args.nodes.now

abbrev Rows : At-loop-depth → List ℕ
Rows c = c.args.rows.now

-- where the arms meet, a node is due
due : (c : Joined-depth-eq0) → Due (Nodes c.before) (Rows c.before) c.if-depth-eq0.pending c.loop-depth.depth c.loop-depth.i c.loop-depth.j c.if-depth-eq0.tops
due c =
    let l = c.loop-depth in
    elim c.if-depth-eq0.branch [
      | then-depth-eq0+else-i-nodes w ↦ rw (w.pending-is, w.tops-is) (due_top l.invariant w.if-depth-eq0.true w.if-i-nodes.false)
      | else-depth-eq0+else-k-eq0 w ↦ rw (w.pending-is, w.tops-is) (due_inner l.invariant (l.depth - 1) (get_or l.pending (l.depth - 1) 0 - 1) (omega (arith, w.if-depth-eq0.false)) (omega (arith, w.if-k-eq0.false)))
    ]

-- the node that is due fits
fits : (c : Else-not-node_fits) →
    let l = c.before.before.before in
    NodeFits (Nodes l) l.loop-depth.i (length (Rows l) - l.loop-depth.j)
fits c =
    let l = c.before.before.before in
    decided c.node_fits.result (NodeFits (Nodes l) l.loop-depth.i (length (Rows l) - l.loop-depth.j)) c.if-not-node_fits.false c.node_fits.ensures

pub loop-depth-init : goal.loop-depth-init
loop-depth-init c = kept_start _ _ _ refl

pub returns-then-j-rows : goal.returns-then-j-rows
returns-then-j-rows c = kept_end c.loop-depth.invariant c.if-depth-eq0.true c.if-i-nodes.true c.if-j-rows.true

pub returns-then-i-nodes : goal.returns-then-i-nodes
returns-then-i-nodes c = kept_over c.loop-depth.invariant c.if-depth-eq0.true c.if-i-nodes.true c.if-j-rows.false

pub loop-depth-preserved-then-k-eq0 : goal.loop-depth-preserved-then-k-eq0
loop-depth-preserved-then-k-eq0 c = kept_pop c.loop-depth.invariant _ (omega arith) c.if-k-eq0.true

pub returns-then-not-node_fits : goal.returns-then-not-node_fits
returns-then-not-node_fits c =
    let d = c.before.before.before in
    let l = d.before in
    due_unfit l.loop-depth.invariant (due d)
    (refuted c.node_fits.result (NodeFits (Nodes l) l.loop-depth.i (length (Rows l) - l.loop-depth.j)) c.if-not-node_fits.true c.node_fits.ensures)

pub returns-then-depth-eq-MOST_LEVELS : goal.returns-then-depth-eq-MOST_LEVELS
returns-then-depth-eq-MOST_LEVELS c =
    let d = joined1 c.before.before.before in
    due_deep d.loop-depth.invariant (due d) (fits (else5 c.before.before)) c.if-w-gt0.true (omega arith)

pub loop-depth-preserved-then-w-gt0 : goal.loop-depth-preserved-then-w-gt0
loop-depth-preserved-then-w-gt0 c =
    let d = joined1 c.before.before.before in
    let w = c.before.before.before.before in
    due_push d.loop-depth.invariant (due d) (fits w.before) _ refl (omega arith)

pub loop-depth-preserved : goal.loop-depth-preserved
loop-depth-preserved c =
    let d = joined1 c.before.before in
    let w = c.before.before.before in
    due_skip d.loop-depth.invariant (due d) (fits w.before) _ refl c.if-w-gt0.false
