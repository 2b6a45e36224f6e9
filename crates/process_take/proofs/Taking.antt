-- One step: what each kind of operand asks of the function that joins it, and what that function gives.
-- Assumes nothing.
use mathlib.Core.Path.{◌≡◌, sym, subst}
use mathlib.Core.Bool.{false}
use mathlib.Core.Option.{Option, none as nothing, some}
use mathlib.Core.List.{List, [], ◌∷◌}
use Prim.Native.Nat.{ℕ}
use native.Mathlib.Omega.{arith}
use Rattle.record.specs.Tree.{Encoding, forest}
use Rattle.record.specs.Standing.{Here}
use Rattle.record.specs.declared.Spot.{Spot}
use Rattle.process_steps.specs.declared.Step.{Step}
use Rattle.process_steps.specs.declared.Step.TheVariants.{First, Second, Special}
use Rattle.process_steps.specs.Steps.{second_or}
use Rattle.process_steps.specs.Promises.{StepFine, EntryThere, Inputs}
use Rattle.process_steps.proofs.Steps.{fine_there}
use Rattle.fold_over.specs.Promises.{AskStep, WritesStep}
use Rattle.process_special.specs.Promises.{AskSpecial, AppendsSpecial}
use Rattle.process_take.specs.Promises.{AskTake, TakesStep}
use Rattle.process_take.specs.Operand.{operand_of}
use Rattle.process_take.specs.declared.Operand.{Operand}
use Rattle.process_take.specs.declared.Operand.TheVariants.{Stored, Special as SpecialRows}

-- ---- A step of the second encoding has one

pub second_there : {nodes rows : List ℕ} {s : Spot} {E : Encoding} (entries members : List ℕ) (second : Option Encoding) (t : ℕ) → Inputs nodes rows s E second → StepFine entries members second (Second t) → Here nodes rows s.node s.row (forest (second_or second ∷ []))
second_there entries members nothing t inputs u = absurd u
second_there entries members (some F) t inputs u = inputs.second_here

-- ---- The entry of a step is one of the table

pub entry_there : {nodes rows : List ℕ} {s : Spot} {entries members : List ℕ} {step : Step} {out out' working working' : List ℕ} → AskTake nodes rows s entries members step out out' working working' → EntryThere entries step
entry_there {entries = entries} {members} {step} a = fine_there entries members a.second step a.fine

-- ---- What each kind of operand asks, and what is given for it

module _ (nodes rows members out out' : List ℕ) where
  abbrev pub AskOperand : List ℕ → List ℕ → Operand → Type 0
  AskOperand working working' (Stored k v) = AskStep nodes rows k v false out out' working working'
  AskOperand working working' (SpecialRows t first count) = AskSpecial members first count t out out' working'

  abbrev pub JoinsOperand : List ℕ → List ℕ → Operand → Type 0
  JoinsOperand out₁ out₁' (Stored k v) = WritesStep nodes rows k v false out out' out₁ out₁'
  JoinsOperand out₁ out₁' (SpecialRows t first count) = AppendsSpecial members first count t out out' out₁ out₁'

module _ {nodes rows entries members out out' : List ℕ} {s : Spot} where
  pub take : (step : Step) {o : Operand} {working working' : List ℕ} → operand_of entries s step ≡ o → AskTake nodes rows s entries members step out out' working working' → AskOperand nodes rows members out out' working working' o
  take step {o} {working} {working'} e ask = subst (AskOperand nodes rows members out out' working working') e (go step ask)
    where
      go : (step : Step) → AskTake nodes rows s entries members step out out' working working' → AskOperand nodes rows members out out' working working' (operand_of entries s step)
      go (First t) a = record { S = a.S; P = a.E; here_s = a.here_s; here_p = a.inputs.first_here; view_fine = omega arith; within = a.within; room = a.room; working_room = a.working_room }
      go (Second t) a = record { S = a.S; P = second_or a.second; here_s = a.here_s; here_p = second_there entries members a.second t a.inputs a.fine; view_fine = omega arith; within = a.within; room = a.room; working_room = a.working_room }
      go (Special t entry) a = record { S = a.S; here_s = a.here_s; among = a.fine.among; room = a.room; working_fits = a.working_room.rows_fit }

  pub took : (step : Step) {o : Operand} {out₁ out₁' : List ℕ} → operand_of entries s step ≡ o → JoinsOperand nodes rows members out out' out₁ out₁' o → TakesStep nodes rows s entries members step out out' out₁ out₁'
  took step {o} {out₁} {out₁'} e wrote = go step (subst (JoinsOperand nodes rows members out out' out₁ out₁') (sym e) wrote)
    where
      go : (step : Step) → JoinsOperand nodes rows members out out' out₁ out₁' (operand_of entries s step) → TakesStep nodes rows s entries members step out out' out₁ out₁'
      go (First t) w = record { joined = λ E second S inputs fine h. w S E h inputs.first_here }
      go (Second t) w = record { joined = λ E second S inputs fine h. w S (second_or second) h (second_there entries members second t inputs fine) }
      go (Special t entry) w = record { joined = λ E second S inputs fine h. w S h }
