-- How a report and the answers about it cross the C interface.
-- Assumes nothing: these are definitions.
use Rattle.std.specs.Prelude.{ℕ, List, [], ◌∷◌, get_or, Result, Ok, Err}
use Rattle.fractions.specs.declared.Fraction.{Fraction}
use Rattle.record.specs.Refusals.{number_of}
use Rattle.record.specs.declared.Refusal.{Refusal}
use Rattle.c_crossing.specs.Crossing.{Crossed, crossed}
use Rattle.report_trees.specs.declared.Report.{Report}

-- the report of six numbers, and back
abbrev pub report_in : List ℕ → Report
report_in l = record { encodings = get_or l 0 0; windows = get_or l 1 0; rows = get_or l 2 0; padding = get_or l 3 0; special = get_or l 4 0; rest = get_or l 5 0 }

abbrev pub report_numbers : Report → List ℕ
report_numbers r = r.encodings ∷ r.windows ∷ r.rows ∷ r.padding ∷ r.special ∷ r.rest ∷ []

-- a refusal leaves the report as it was
abbrev pub added_crossed : List ℕ → Result Report Refusal → Crossed
added_crossed was (Err why) = crossed (number_of why) was
added_crossed was (Ok r) = crossed 0 (report_numbers r)

abbrev pub share_crossed : Fraction → Crossed
share_crossed s = crossed 0 (s.part ∷ s.whole ∷ [])
