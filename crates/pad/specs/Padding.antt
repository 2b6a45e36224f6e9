-- Padding one encoding or a batch (document 01, modules 3 and 6): what becomes of them, and when it refuses.
-- Assumes nothing: these are definitions.
use Rattle.std.specs.Prelude.{cond, ℕ, List, [], ◌∷◌}
use Rattle.record.specs.Tree.{Forest, forest}
use Rattle.record.specs.Read.{Reading, of_one, of_any}
use Rattle.record.specs.Outcome.{Outcome, refused, in_room}
use Rattle.record.specs.declared.Refusal.TheVariants.{MalformedRecord, TextOutsidePool}
use Rattle.cut_plan.specs.declared.Direction.{Direction}
use Rattle.pad_rows.specs.declared.PadToken.{PadToken}
use Rattle.pad_write.specs.Padded.{padded}
use Rattle.pad_length.specs.Target.{target_of, text_inside}
use Rattle.pad_length.specs.declared.PaddingStrategy.{PaddingStrategy}

-- "1, 14 for the pad text, used or not, 2", where `result` is what has to have room
abbrev pub unless_outside : List ℕ → List ℕ → PadToken → ℕ → Forest → Outcome
unless_outside nodes rows token pool result = cond (text_inside token pool) (in_room nodes rows result) (refused TextOutsidePool)

-- one encoding, padded, in an output of the two lists
unfoldable pub pad_outcome : List ℕ → List ℕ → ℕ → ℕ → PadToken → Direction → Reading → Outcome
pad_outcome nodes rows pool target token d r = of_one (refused MalformedRecord) (λ E. unless_outside nodes rows token pool (padded target token d (forest (E ∷ [])))) r

-- any number of encodings
unfoldable pub pad_encodings_outcome : List ℕ → List ℕ → ℕ → PaddingStrategy → ℕ → PadToken → Direction → Reading → Outcome
pad_encodings_outcome nodes rows pool strategy multiple token d r = of_any (refused MalformedRecord) (λ f. unless_outside nodes rows token pool (padded (target_of strategy multiple f) token d f)) r
