-- What `cut_one` asks and gives.
-- Assumes nothing: these are definitions.
use Rattle.record.specs.declared.Refusal.{Refusal}
use Rattle.std.specs.Prelude.{◌≡◌, ℕ, List, [], ◌∷◌, Result}
use Rattle.record.specs.Tree.{Encoding, forest}
use Rattle.record.specs.Standing.{One}
use Rattle.record.specs.Outcome.{Outcome, Writes}
use Rattle.record.specs.declared.Written.{Written}
use Rattle.record_extent.specs.Size.{size_of}
use Rattle.record_extent.specs.declared.Extent.{Extent}

-- the two lists store one encoding, which holds `own`
pub record AskOne (nodes rows : List ℕ) (own : Extent) : Type 0 where
  pub E : Encoding
  pub one : One nodes rows E
  pub measured : own ≡ size_of (forest (E ∷ []))

-- whatever encoding they store, if it holds `own`: what `outcome` says of it became of the output
abbrev pub Becomes : (Encoding → Outcome) → List ℕ → List ℕ → Extent → Result Written Refusal → List ℕ → List ℕ → List ℕ → List ℕ → Type 0
Becomes outcome nodes rows own answer nodes₀ rows₀ nodes₁ rows₁ = (E : Encoding) → One nodes rows E → own ≡ size_of (forest (E ∷ [])) → Writes (outcome E) answer nodes₀ rows₀ nodes₁ rows₁
