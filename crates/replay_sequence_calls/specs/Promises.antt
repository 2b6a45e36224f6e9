-- What a replayed call says of the answers that a case stores.
-- Assumes nothing: these are definitions.
use Rattle.std.specs.Prelude.{ℕ, List, [], ◌∷◌, Result}
use Rattle.record.specs.declared.Refusal.{Refusal}
use Rattle.record.specs.Outcome.{refusal_of}
use Rattle.record_check.specs.Answers.{encodings_or}
use Rattle.c_crossing.specs.Crossing.{Crossed}
use Rattle.replay_answers.specs.declared.Outcome.{Outcome}
use Rattle.replay_answers.specs.Promises.{Told}

-- the stored answers, from a place on, are the same as those that cross, or not
abbrev pub ToldCrossed : Outcome → Crossed → List ℕ → ℕ → Type 0
ToldCrossed o c case at = Told o (c.refusal ∷ c.numbers) case at

-- the same of the number of encodings of a batch, with what the lent number was
abbrev pub ToldShape : Outcome → ℕ → Result ℕ Refusal → List ℕ → ℕ → Type 0
ToldShape o was shape case at = Told o (refusal_of shape ∷ encodings_or was shape ∷ []) case at
