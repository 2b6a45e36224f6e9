-- `then_left` makes the second call on what the first left, or answers with its refusal. Assumes nothing.
use borrow.Author.Rules.{rules}
use Rattle.std.specs.Prelude.{Err}
use mathlib.Core.Path.{◌≡◌}
use native.Mathlib.Omega.{arith}
use lib.ListN.{length-take}
use Rattle.join_next.proofs.Next.{left_stopped, left_called}
use Rattle.join_next.proofs.then_left.Goals as goal

pub returns-in_err-nodes : goal.returns-in_err-nodes
returns-in_err-nodes c = let same : c.from_residual.result ≡ Err c.in_err-nodes.field-0.0 = search rules in rw same (left_stopped _ c.in_err-nodes.was)

pub overflow_mul-node_end : goal.overflow_mul-node_end
overflow_mul-node_end c = let w = c.in_ok-nodes.field-0 in omega (arith, c.requires.nodes_stand w.nodes w.rows c.in_ok-nodes.was)

pub slice_bounds-merge_with-end : goal.slice_bounds-merge_with-end
slice_bounds-merge_with-end c = let w = c.in_ok-nodes.field-0 in let h = c.requires.nodes_stand w.nodes w.rows c.in_ok-nodes.was in simp length-take (omega arith)

pub overflow_mul-row_end : goal.overflow_mul-row_end
overflow_mul-row_end c = let w = c.in_ok-nodes.field-0 in omega (arith, c.requires.rows_stand w.nodes w.rows c.in_ok-nodes.was)

pub slice_bounds-merge_with-end-2 : goal.slice_bounds-merge_with-end-2
slice_bounds-merge_with-end-2 c = let w = c.in_ok-nodes.field-0 in let h = c.requires.rows_stand w.nodes w.rows c.in_ok-nodes.was in simp length-take (omega arith)

pub returns : goal.returns
returns c = let w = c.in_ok-nodes.field-0 in left_called w.nodes w.rows c.in_ok-nodes.was c.merge_with.ensures
