-- What the functions ask and give that cut two encodings.
-- Assumes nothing: these are definitions.
use Rattle.record.specs.declared.Refusal.{Refusal}
use Rattle.std.specs.Prelude.{◌≡◌, ℕ, ◌+◌, ◌*◌, ◌≤◌, max, List, [], ◌∷◌, Result}
use Rattle.std.proofs.Math.Option.{some}
use Rattle.record.specs.Tree.{Encoding, forest}
use Rattle.record.specs.WellFormed.{most_rows}
use Rattle.record.specs.Standing.{OneOrTwo}
use Rattle.record.specs.Outcome.{Outcome, Writes}
use Rattle.record.specs.declared.Written.{Written}
use Rattle.record_extent.specs.Size.{size_of, extent}
use Rattle.record_extent.specs.declared.Extent.{Extent}

-- ---- Sizes that are added

-- so little that two of them add up
pub record Small (s : Extent) : Type 0 where
  pub few_nodes : s.nodes ≤ most_rows + most_rows
  pub few_rows : s.rows ≤ most_rows * most_rows + most_rows

-- "one after another": nodes and rows add up, levels do not
abbrev pub together : Extent → Extent → Extent
together s t = extent (s.nodes + t.nodes) (s.rows + t.rows) (max s.levels t.levels)

-- ---- A batch of two

-- the two lists store E and F, and E holds `own`
pub record Pair (nodes rows : List ℕ) (own : Extent) (E F : Encoding) : Type 0 where
  pub stored : OneOrTwo nodes rows E (some F)
  pub measured : own ≡ size_of (forest (E ∷ []))

abbrev pub AskPair : List ℕ → List ℕ → Extent → Type 0
AskPair nodes rows own = (E : Encoding) × (F : Encoding) × Pair nodes rows own E F

-- whatever two they store: what `outcome` says of them became of the output
abbrev pub BecomesPair : (Encoding → Encoding → Outcome) → List ℕ → List ℕ → Extent → Result Written Refusal → List ℕ → List ℕ → List ℕ → List ℕ → Type 0
BecomesPair outcome nodes rows own answer nodes₀ rows₀ nodes₁ rows₁ = (E F : Encoding) → Pair nodes rows own E F → Writes (outcome E F) answer nodes₀ rows₀ nodes₁ rows₁
