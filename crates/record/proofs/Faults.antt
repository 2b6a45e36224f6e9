-- The part at fault that a refusal tells, by what `fault` answers.
-- Assumes nothing.
use mathlib.Core.Path.{◌≡◌, refl}
use mathlib.Core.Option.{Option, none as nothing, some}
use Rattle.record.specs.Refusals.{fault_answer}
use Rattle.record.specs.declared.Fault.{Fault}
use Rattle.std.specs.Prelude.{Some, None}

pub fault_none : (o : Option Fault) → fault_answer o ≡ None → o ≡ nothing
fault_none nothing e = refl
fault_none (some fault) e = cc

pub fault_some : (o : Option Fault) {fault : Fault} → fault_answer o ≡ Some fault → o ≡ some fault
fault_some nothing e = cc
fault_some (some found) e = cc
