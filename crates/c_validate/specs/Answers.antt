-- How the answers of the check of templates and of counting what one adds cross the C interface, with what the lent numbers were.
-- Assumes nothing: these are definitions.
use Rattle.std.specs.Prelude.{ℕ, List, [], ◌∷◌, Result, Ok, Err}
use Rattle.record.specs.Refusals.{number_of, fault_or}
use Rattle.c_crossing.specs.Crossing.{Crossed, crossed}
use Rattle.record.specs.declared.Refusal.{Refusal}
use Rattle.template_validate.specs.Validation.{Validation, validity_refusal, validity_fault}

-- the template and its part at fault
abbrev pub validity_crossed : List ℕ → Validation → Crossed
validity_crossed was v = crossed (validity_refusal v) (validity_fault was v)

-- the number of tokens that are added
abbrev pub added_crossed : List ℕ → Result ℕ Refusal → Crossed
added_crossed was (Err k) = crossed (number_of k) was
added_crossed was (Ok n) = crossed 0 (n ∷ [])

-- the part at fault, in the place of what two lent numbers were
abbrev pub added_fault : List ℕ → Result ℕ Refusal → List ℕ
added_fault was (Err k) = fault_or was k
added_fault was (Ok n) = was
