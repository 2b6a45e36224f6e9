-- How the answer of the check against the profile crosses the C interface, with what the lent numbers were: the rule, the node
-- and the row of the first break, and zeros where there is none.
-- Assumes nothing: these are definitions.
use Rattle.std.specs.Prelude.{ℕ, List, [], ◌∷◌, Option, Some, None, Result, Ok, Err}
use Rattle.record.specs.declared.Refusal.{Refusal}
use Rattle.profile_trees.specs.declared.Break.{Break}
use Rattle.c_crossing.specs.Crossing.{Crossed, crossed_of}

abbrev pub profile_numbers : Result (Option Break) Refusal → Result (List ℕ) Refusal
profile_numbers (Err why) = Err why
profile_numbers (Ok None) = Ok (0 ∷ 0 ∷ 0 ∷ [])
profile_numbers (Ok (Some b)) = Ok (b.rule ∷ b.node ∷ b.row ∷ [])

abbrev pub profile_crossed : List ℕ → Result (Option Break) Refusal → Crossed
profile_crossed was answer = crossed_of was (profile_numbers answer)
