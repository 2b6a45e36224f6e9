-- `fold_next` joins a run, where one begins and the output has windows, or one encoding. Assumes nothing.
use native.Mathlib.Omega.{arith}
use Rattle.fold_next.proofs.Done.{to_come}
use Rattle.fold_next.proofs.Next.{asks_from, asks_run, run_far, run_folded, next_one, one_stands, asks_step, one_far, one_folded}
use Rattle.fold_next.proofs.fold_next.Goals as goal

-- ---- A run

pub run_from-run-requires : goal.run_from-run-requires
run_from-run-requires c = asks_from c.requires.2

pub overflow_mul-node : goal.overflow_mul-node
overflow_mul-node c =
    let a = c.requires.2 in
    omega (arith, (run_far a (c.run_from-run.ensures _ (to_come a))).0)

pub overflow_add-node : goal.overflow_add-node
overflow_add-node c =
    let a = c.requires.2 in
    omega (arith, (run_far a (c.run_from-run.ensures _ (to_come a))).0)

pub overflow_mul-row : goal.overflow_mul-row
overflow_mul-row c =
    let a = c.requires.2 in
    omega (arith, (run_far a (c.run_from-run.ensures _ (to_come a))).1)

pub overflow_add-row : goal.overflow_add-row
overflow_add-row c =
    let a = c.requires.2 in
    omega (arith, (run_far a (c.run_from-run.ensures _ (to_come a))).1)

pub join_run-requires : goal.join_run-requires
join_run-requires c =
    let a = c.requires.2 in
    let b = c.run_from-run.ensures _ (to_come a) in
    (c.requires.0, b.run, asks_run a b)

pub returns-then-run-gt0 : goal.returns-then-run-gt0
returns-then-run-gt0 c = λ S left a.
    let b = c.run_from-run.ensures left (to_come a) in
    run_folded a b (omega arith) (c.join_run.ensures S b.run (asks_run a b))

-- ---- One encoding

pub measure-own-requires : goal.measure-own-requires
measure-own-requires c =
    let a = c.requires.2 in
    (next_one a, one_stands a)

pub fold_step-requires : goal.fold_step-requires
fold_step-requires c = asks_step c.requires.2

pub overflow_mul-result : goal.overflow_mul-result
overflow_mul-result c =
    let a = c.requires.2 in
    omega (arith, (one_far a (c.measure-own.ensures (next_one a) (one_stands a))).0)

pub overflow_add-result : goal.overflow_add-result
overflow_add-result c =
    let a = c.requires.2 in
    omega (arith, (one_far a (c.measure-own.ensures (next_one a) (one_stands a))).0)

pub overflow_mul-result-2 : goal.overflow_mul-result-2
overflow_mul-result-2 c =
    let a = c.requires.2 in
    omega (arith, (one_far a (c.measure-own.ensures (next_one a) (one_stands a))).1)

pub overflow_add-result-2 : goal.overflow_add-result-2
overflow_add-result-2 c =
    let a = c.requires.2 in
    omega (arith, (one_far a (c.measure-own.ensures (next_one a) (one_stands a))).1)

pub returns : goal.returns
returns c = λ S left a. one_folded a (c.measure-own.ensures (next_one a) (one_stands a)) c.fold_step.ensures
