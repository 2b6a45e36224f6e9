-- How the answer of reading a template crosses the C interface, with what the lent numbers were.
-- Assumes nothing: these are definitions.
use Rattle.std.specs.Prelude.{ℕ, List, ◌∷◌, Result, Ok, Err}
use Rattle.record.specs.Refusals.{number_of, fault_or}
use Rattle.record.specs.declared.Refusal.{Refusal}
use Rattle.c_crossing.specs.Crossing.{Crossed, crossed}
use Rattle.template_text.specs.declared.Template.{Template}

-- the number of pieces, then the numbers of all that a template may have
abbrev pub template_crossed : List ℕ → Result Template Refusal → Crossed
template_crossed was (Err k) = crossed (number_of k) was
template_crossed was (Ok t) = crossed 0 (t.count ∷ t.pieces)

-- the part at fault, in the place of what two lent numbers were
abbrev pub template_fault : List ℕ → Result Template Refusal → List ℕ
template_fault was (Err k) = fault_or was k
template_fault was (Ok t) = was
