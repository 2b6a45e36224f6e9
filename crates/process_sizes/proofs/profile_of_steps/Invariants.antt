-- `profile_of_steps` measures what the steps give: each turn folds one more, and the first that is too large decides.
-- Assumes nothing.
use mathlib.Core.Option.{Option}
use mathlib.Core.List.{List}
use Prim.Native.Nat.{ℕ}
use Rattle.record.specs.Tree.{Encoding}
use Rattle.process_steps.specs.declared.Step.{Step}
use Rattle.process_steps.specs.Steps.{step_encoding}
use Rattle.process_rows.specs.Promises.{StepsOf}
use Rattle.process_rows.proofs.Walked.{Walked}
use Rattle.process_sizes.proofs.Turns.{Within}
use Rattle.process_sizes.proofs.profile_of_steps.Given as goal

abbrev pub invariant-loop-i : goal.invariant-loop-i
invariant-loop-i l =
    (members : List ℕ) (E : Encoding) (o : Option Encoding) (list : List Step) → StepsOf l.nodes l.second l.entries l.steps l.count members E o list → Walked (step_encoding l.entries members E o) (Within l.so_far) list l.i
