-- Steps in numbers: how many numbers a step has, that they stand where its place says, and that they read as the step; and
-- that the entry of a step is there.
-- Assumes nothing.
use mathlib.Core.Path.{◌≡◌, refl, ap, ◌∙◌}
use mathlib.Core.Option.{Option}
use mathlib.Core.List.{List, [], ◌∷◌, ◌++◌, flat_map, append_assoc}
use Prim.Native.Nat.{ℕ, suc, ◌+◌, ◌*◌, ◌≤◌}
use native.Mathlib.Omega.{arith}
use lib.ListN.{length, get_or, length-append}
use lib.Seq.{get_or-append-add}
use Rattle.record.specs.Tree.{Encoding}
use Rattle.template_text.specs.Template.{piece_width}
use Rattle.process_steps.specs.declared.Step.{Step}
use Rattle.process_steps.specs.declared.Step.TheVariants.{First, Second, Special}
use Rattle.process_steps.specs.Steps.{step_numbers, step_at}
use Rattle.process_steps.specs.Promises.{StepsAt, StepFine, EntryThere}

step_long : (s : Step) → length (step_numbers s) ≡ piece_width
step_long (First t) = refl
step_long (Second t) = refl
step_long (Special t entry) = refl

pub length_steps : (steps : List Step) → length (flat_map step_numbers steps) ≡ length steps * piece_width
unfolding flat_map
length_steps [] = refl
length_steps (s ∷ steps) = omega (arith, length-append (step_numbers s) (flat_map step_numbers steps), step_long s, length_steps steps)

-- the numbers of a step, with any after them, read as the step
reads_as : (s : Step) (rest : List ℕ) → step_at (step_numbers s ++ rest) 0 ≡ s
unfolding step_at
reads_as (First t) rest = refl
reads_as (Second t) rest = refl
reads_as (Special t entry) rest = refl

-- the numbers of another before it change nothing
after : (xs l : List ℕ) (n : ℕ) → step_at (xs ++ l) (length xs + n) ≡ step_at l n
unfolding step_at
after xs l n = rw (get_or-append-add xs l n 0, later 1, later 2) refl
  where
    later : (k : ℕ) → get_or (xs ++ l) (length xs + n + k) 0 ≡ get_or l (n + k) 0
    later k = ap (λ (i : ℕ). get_or (xs ++ l) i 0) (omega arith) ∙ get_or-append-add xs l (n + k) 0

reads_after : (passed : List Step) (s : Step) (left : List Step) (rest : List ℕ) → step_at (flat_map step_numbers (passed ++ s ∷ left) ++ rest) (length passed * piece_width) ≡ s
unfolding flat_map
reads_after [] s left rest = rw append_assoc (reads_as s (flat_map step_numbers left ++ rest))
reads_after (p ∷ passed) s left rest =
    let e : suc (length passed) * piece_width ≡ length (step_numbers p) + length passed * piece_width = omega (arith, step_long p) in
    rw (e, append_assoc) (after (step_numbers p) (flat_map step_numbers (passed ++ s ∷ left) ++ rest) (length passed * piece_width) ∙ reads_after passed s left rest)

-- where steps stand, the one after those passed reads at its place
pub step_is : {numbers : List ℕ} (passed : List Step) (s : Step) (left : List Step) → StepsAt numbers (passed ++ s ∷ left) → step_at numbers (length passed * piece_width) ≡ s
step_is passed s left at = ap (λ (l : List ℕ). step_at l (length passed * piece_width)) at.is ∙ reads_after passed s left at.rest

-- and its numbers are there
pub step_inside : {numbers : List ℕ} (passed : List Step) (s : Step) (left : List Step) → StepsAt numbers (passed ++ s ∷ left) → length passed * piece_width + piece_width ≤ length numbers
step_inside passed s left at = omega (arith, ap length at.is, length-append (flat_map step_numbers (passed ++ s ∷ left)) at.rest, length_steps (passed ++ s ∷ left), length-append passed (s ∷ left))

-- what a step speaks of is there, so its entry is
pub fine_there : (entries members : List ℕ) (second : Option Encoding) (s : Step) → StepFine entries members second s → EntryThere entries s
fine_there entries members second (First t) u = tt
fine_there entries members second (Second t) u = tt
fine_there entries members second (Special t entry) u = u.entry
