-- What the functions ask and give that tell how much a join takes.
-- Assumes nothing: these are definitions.
use Rattle.std.specs.Prelude.{◌≡◌, Bool, true, false, List, [], ◌∷◌, ℕ, None, Some}
use Rattle.record.specs.Tree.{Encoding, forest}
use Rattle.join_trees.specs.Join.{join}
use Rattle.join_levels.specs.Levels.{Profiled, Measured, Measures}
use Rattle.join_levels_stored.specs.Promises.{EncodingAt}
use Rattle.record_room.specs.declared.Size.{Size}
use Rattle.record.specs.WellFormed.{Fits, nodes_in, rows_in}

-- E is within the limits, and this is how much it takes.
pub record Takes (E : Encoding) (s : Size) : Type 0 where
  pub nodes : s.nodes ≡ nodes_in (forest (E ∷ []))
  pub rows : s.rows ≡ rows_in (forest (E ∷ []))
  pub limits : Fits (forest (E ∷ []))

-- Whether E is within the limits, and then how much it takes.
pub record Sizes (E : Encoding) (s : Size) : Type 0 where
  pub fitting : s.fits ≡ true → Takes E s
  pub too_large : s.fits ≡ false → Fits (forest (E ∷ [])) → ⊥

-- ---- From what was measured

-- where there is one, it is the profile of an encoding within the limits
abbrev pub AskSize : Measured → Type 0
AskSize None = Unit {0}
AskSize (Some p) = Profiled p

-- the size of whatever encoding was measured
abbrev pub SizesFor : Measured → Size → Type 0
SizesFor answer s = (E : Encoding) → Measures E answer → Sizes E s

-- ---- A join

-- each list of nodes begins with an encoding
pub record AskJoinSize (nodes nodes' : List ℕ) : Type 0 where
  pub S : Encoding
  pub P : Encoding
  pub first_stands : EncodingAt nodes 0 S
  pub second_stands : EncodingAt nodes' 0 P

-- whatever two they begin with, the size of their join, growing or not
abbrev pub SizesJoinFor : List ℕ → List ℕ → Size → Type 0
SizesJoinFor nodes nodes' s = (growing : Bool) (S P : Encoding) → EncodingAt nodes 0 S → EncodingAt nodes' 0 P → Sizes (join growing S P) s
