-- `rows_of_steps` adds up what each step joins. Assumes nothing.
use mathlib.Core.Path.{◌≡◌}
use mathlib.Core.Option.{Option}
use mathlib.Core.List.{List}
use Prim.Native.Nat.{ℕ, ◌*◌, ◌^◌, ◌≤◌}
use lib.ListN.{length}
use Rattle.record.specs.Tree.{Encoding, windows}
use Rattle.process_steps.specs.declared.Step.{Step}
use Rattle.process_steps.specs.Steps.{second_or, step_encoding}
use Rattle.process_rows.specs.Promises.{StepsOf}
use Rattle.process_rows.proofs.Walked.{Walked}
use Rattle.process_rows.proofs.Turns.{AloneWith}
use Rattle.process_rows.proofs.rows_of_steps.Given as goal

-- each step adds less than 2^32
abbrev pub invariant-loop-i : goal.invariant-loop-i
invariant-loop-i l =
    (l.rows ≤ l.i * 2 ^ 32)
    × ((members : List ℕ) (E : Encoding) (o : Option Encoding) (list : List Step) → StepsOf l.nodes l.second l.entries l.steps l.count members E o list → length (windows E) ≡ 0 → length (windows (second_or o)) ≡ 0 → Walked (step_encoding l.entries members E o) (AloneWith l.rows) list l.i)
