-- What the functions that compare promise.
-- Assumes nothing: these are definitions.
use Rattle.std.specs.Prelude.{ℕ, ◌+◌, ◌≡◌, Bool, true, false, List, length, drop}
use Rattle.replay_answers.specs.declared.Outcome.{Outcome}
use Rattle.replay_answers.specs.declared.Outcome.TheVariants.{Skipped, Same, Differs, Bad}

-- the outcome of a case whose answers are the same, or not
abbrev pub comparison : Bool → Outcome
comparison true = Same
comparison false = Differs

-- what an outcome says of the numbers given for those of a case from a place on, to its end
abbrev pub Told : Outcome → List ℕ → List ℕ → ℕ → Type 0
Told Skipped given case at = ⊥
Told Same given case at = (length case ≡ at + length given) × (given ≡ drop at case)
Told Differs given case at = (length case ≡ at + length given) × (given ≡ drop at case → ⊥)
Told Bad given case at = length case ≡ at + length given → ⊥
